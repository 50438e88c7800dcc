-- The messages that the parts of a sender represent.
use Rattle.std.specs.Prelude.{◌≡◌, ◌≤◌, ℕ, ◌+◌, ◌-◌, List, [], ◌∷◌, length, map, slice_index, refl}
use Rattle.std.specs.Coded.{Coded, code_by, coded×, coded_list, coded_ℕ}
use Rattle.rr_slots.specs.Pools.{Slots, Written, written_code}
use Rattle.rr_sender.specs.Senders.{Messages, times, all_entries}
use Rattle.rr_sender.specs.Links.{Sent}
use Rattle.rr_sender.specs.declared.sender.Head.{Head}

-- messages are stored as the tuple of their fields
abbrev pub messages_code : {T N H : Type 0} → Coded T → Coded N → Coded H → Coded (Messages T N H)
messages_code t n h =
    code_by (List (Written _) × (List _ × (List _ × (List ℕ × (List (List (List ℕ)) × (List (List ℕ) × (ℕ × ℕ)))))))
    (coded× (coded_list (written_code t)) (coded× (coded_list n)
    (coded× (coded_list h) (coded× (coded_list coded_ℕ)
    (coded× (coded_list (coded_list (coded_list coded_ℕ)))
    (coded× (coded_list (coded_list coded_ℕ)) (coded× coded_ℕ coded_ℕ)))))))
    (λ m. (m.contents, (m.details, (m.user_headers, (m.held, (m.queues, (m.borrowed, (m.capacity, m.room))))))))
    (λ p. record {
      contents = p.0;
      details = p.1.0;
      user_headers = p.1.1.0;
      held = p.1.1.1.0;
      queues = p.1.1.1.1.0;
      borrowed = p.1.1.1.1.1.0;
      capacity = p.1.1.1.1.1.1.0;
      room = p.1.1.1.1.1.1.1;
    })
    (λ _. refl)

-- of the holders of slots from i on, the number of those that are no entries
abbrev pub held_from : ℕ → List ℕ → List ℕ → List ℕ
held_from i [] entries = []
held_from i (h ∷ holders) entries = (h - times i entries) ∷ held_from (i + 1) holders entries

-- how many hold each slot beside the queues
abbrev pub held_of : List ℕ → List (List (List ℕ)) → List ℕ
held_of holders queues = held_from 0 holders (all_entries queues)

abbrev pub details_of : {N H : Type 0} → List (Head N H) → List N
details_of heads = map (λ head. head.details) heads

abbrev pub headers_of : {N H : Type 0} → List (Head N H) → List H
headers_of heads = map (λ head. head.user_header) heads

-- the messages of a pool, the heads of its slots, and the links
abbrev pub messages : {T N H : Type 0} → Slots T → List (Head N H) → Sent → Messages T N H
messages pool heads s = record {
  contents = pool.contents;
  details = details_of heads;
  user_headers = headers_of heads;
  held = held_of pool.holders s.queues;
  queues = s.queues;
  borrowed = s.borrowed;
  capacity = s.capacity;
  room = pool.room;
}

-- each entry is one of its slot's holders, and each slot has a body and a head
pub record IsSound {T N H : Type 0} (pool : Slots T) (heads : List (Head N H)) (s : Sent) : Type 0 where
  pub covered : (i : ℕ) → times i (all_entries s.queues) ≤ slice_index pool.holders i
  pub one_body_each : length pool.contents ≡ length pool.holders
  pub one_head_each : length heads ≡ length pool.holders
