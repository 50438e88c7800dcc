-- What contracts see of the heads, and how many there are.
use Rattle.std.proofs.Common.{◌≡◌, ℕ, ◌+◌, ◌<◌, List, length, get_or, sym, ap, ◌∙◌, arith}
use Rattle.std.specs.Prelude.{slice_set, slice_get, Some, option_map}
use Rattle.std.proofs.Math.Seq.{map-set_same}
use Rattle.std.proofs.lemmas.List.{map-set, length-map}
use Rattle.std.proofs.lemmas.Option.{slice_get-get_or, slice_get-map}
use Rattle.rr_slots.specs.Pools.{Slots, free_count}
use Rattle.rr_sender.specs.declared.sender.Head.{Head}
use Rattle.rr_sender.specs.Senders.{used_count, with_user_header}
use Rattle.rr_sender.specs.Links.{Sent}
use Rattle.rr_sender.specs.Parts.{held_of, messages, details_of, headers_of, IsSound}
use Rattle.rr_sender.proofs.HeldLaws.{length-held_of}
use Rattle.rr_sender.proofs.SenderLaws.{used-and-free}

module _ {T N H : Type 0} (pool : Slots T) (heads : List (Head N H)) (s : Sent) (sound : IsSound pool heads s) where
  -- there are as many of each as slots
  pub length-contents : length pool.contents ≡ length (held_of pool.holders s.queues)
  length-contents = omega (arith, sound.one_body_each, length-held_of pool.holders s.queues)

  pub length-heads : length heads ≡ length (held_of pool.holders s.queues)
  length-heads = omega (arith, sound.one_head_each, length-held_of pool.holders s.queues)

  pub length-details : length (details_of heads) ≡ length (held_of pool.holders s.queues)
  length-details = omega (arith, length-heads, length-map heads (λ (h : Head N H). h.details))

  pub length-user_headers : length (headers_of heads) ≡ length (held_of pool.holders s.queues)
  length-user_headers = omega (arith, length-heads, length-map heads (λ (h : Head N H). h.user_header))

  pub free-and-used : free_count pool + used_count (messages pool heads s) ≡ length (held_of pool.holders s.queues)
  free-and-used = omega (arith, used-and-free pool heads s sound, length-held_of pool.holders s.queues)

  module _ (slot : ℕ) (inside : slot < length (held_of pool.holders s.queues)) where
    pub has_body : slot < length pool.contents
    has_body = omega (arith, inside, length-contents)

    pub has_head : slot < length heads
    has_head = omega (arith, inside, length-heads)

    module _ (head : Head N H) (is : head ≡ get_or heads slot head) where
      head_is : slice_get heads slot ≡ Some head
      head_is = slice_get-get_or heads slot head has_head ∙ ap Some (sym is)

      pub details_is : slice_get (details_of heads) slot ≡ Some head.details
      details_is = slice_get-map (λ (h : Head N H). h.details) heads slot ∙ ap (option_map (λ (h : Head N H). h.details)) head_is

      pub header_is : slice_get (headers_of heads) slot ≡ Some head.user_header
      header_is = slice_get-map (λ (h : Head N H). h.user_header) heads slot ∙ ap (option_map (λ (h : Head N H). h.user_header)) head_is

      pub state-header : (header : H) → messages pool (slice_set heads slot (record { details = head.details; user_header = header })) s
          ≡ with_user_header (messages pool heads s) slot header
      state-header header =
          ap (λ details. record (messages pool (slice_set heads slot (record { details = head.details; user_header = header })) s)
          { details = details })
          (map-set_same (λ (h : Head N H). h.details) heads slot (record { details = head.details; user_header = header }) head
          (ap (λ (h : Head N H). h.details) is))
          ∙ ap (λ headers. record (messages pool heads s) { user_headers = headers })
          (map-set (λ (h : Head N H). h.user_header) heads slot (record { details = head.details; user_header = header }))
