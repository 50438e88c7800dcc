-- Pools as contracts see them.
use Rattle.std.specs.Prelude.{ℕ, ◌+◌, ◌-◌, ◌==◌, not, if◌then◌else◌, List, [], ◌∷◌, ◌++◌, count_by, length, ◌≡◌, replicate, slice_index, slice_index_or, slice_set, refl}
use Rattle.std.specs.Coded.{Coded, code_by, coded×, coded_list, coded_ℕ}

-- the content of a slot: the loaned length, and the elements written
pub record Written (T : Type 0) : Type 0 where
  pub asked_len : ℕ
  pub elements : List T

-- the contents of the slots, the number of holders of each, the room of each in elements, and the number of accesses
-- to holders
pub record Slots (T : Type 0) : Type 0 where
  pub contents : List (Written T)
  pub holders : List ℕ
  pub room : ℕ
  pub looks : ℕ

abbrev pub written_code : {T : Type 0} → Coded T → Coded (Written T)
written_code t =
    code_by (ℕ × List _) (coded× coded_ℕ (coded_list t)) (λ w. (w.asked_len, w.elements))
    (λ p. record { asked_len = p.0; elements = p.1 }) (λ _. refl)

abbrev pub slots_code : {T : Type 0} → Coded T → Coded (Slots T)
slots_code t =
    code_by (List (Written _) × (List ℕ × (ℕ × ℕ)))
    (coded× (coded_list (written_code t)) (coded× (coded_list coded_ℕ) (coded× coded_ℕ coded_ℕ)))
    (λ p. (p.contents, (p.holders, (p.room, p.looks))))
    (λ p. record { contents = p.0; holders = p.1.0; room = p.1.1.0; looks = p.1.1.1 }) (λ _. refl)

-- a body of which two functions tell the asked length and the elements
abbrev pub written : {B T : Type 0} → (B → ℕ) → (B → List T) → B → Written T
written asked_len elements body = record { asked_len = asked_len body; elements = elements body }

module _ {T : Type 0} where
  -- nothing written so far
  abbrev pub nothing_written : ℕ → Written T
  nothing_written len = record { asked_len = len; elements = [] }

  -- one more element
  abbrev pub appended : T → Written T → Written T
  appended item w = record w { elements = w.elements ++ item ∷ [] }

  -- other elements
  abbrev pub with_elements : List T → Written T → Written T
  with_elements items w = record w { elements = items }

  -- as many copies of this element as were loaned
  abbrev pub filled : T → Written T → Written T
  filled element w = with_elements (replicate w.asked_len element) w

  -- the element at an index became another
  abbrev pub with_element_at : ℕ → T → Written T → Written T
  with_element_at index item w = record w { elements = slice_set w.elements index item }

  -- free slots, each with room for this many elements
  abbrev pub free_slots : ℕ → ℕ → Slots T
  free_slots slots room =
      record {
        contents = replicate slots (nothing_written room);
        holders = replicate slots 0;
        room = room;
        looks = 0;
      }

  -- after a slot was acquired, held once, for this many elements
  abbrev pub acquired : Slots T → ℕ → ℕ → Slots T
  acquired p slot len =
      record {
        contents = slice_set p.contents slot (nothing_written len);
        holders = slice_set p.holders slot 1;
        room = p.room;
        looks = p.looks + 2;
      }

  -- after a slot got one more holder
  abbrev pub held_once_more : Slots T → ℕ → Slots T
  held_once_more p slot =
      record p { holders = slice_set p.holders slot (slice_index p.holders slot + 1); looks = p.looks + 2 }

  -- no elements, with the loaned length unchanged
  abbrev pub emptied : Written T → Written T
  emptied w = with_elements [] w

  -- the content of a slot; nothing if there is no such slot
  abbrev pub content_at : Slots T → ℕ → Written T
  content_at p slot = slice_index_or p.contents slot (nothing_written 0)

  -- after a slot lost one holder, and its content with the last one
  abbrev pub given_back : Slots T → ℕ → Slots T
  given_back p slot =
      let left = slice_index p.holders slot - 1 in
      record p {
        contents = if left == 0 then slice_set p.contents slot (emptied (content_at p slot)) else p.contents;
        holders = slice_set p.holders slot left;
        looks = p.looks + 2;
      }

  -- after the content of one slot changed
  abbrev pub with_changed_at : Slots T → ℕ → (Written T → Written T) → Slots T
  with_changed_at p slot change = record p { contents = slice_set p.contents slot (change (content_at p slot)) }

  -- after the content of one slot became complete, with unspecified elements
  abbrev pub CompletesAt : Slots T → ℕ → Slots T → Type 0
  CompletesAt old slot new =
      (elements : List T) × (length elements ≡ (content_at old slot).asked_len)
      × (new ≡ with_changed_at old slot (with_elements elements))

  -- how many slots nobody holds
  abbrev pub free_count : Slots T → ℕ
  free_count p = count_by (λ h. h == 0) p.holders

  -- how many slots are held
  abbrev pub held_count : Slots T → ℕ
  held_count p = count_by (λ h. not (h == 0)) p.holders
