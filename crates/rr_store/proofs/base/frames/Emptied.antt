-- A core stays sound, and contracts see the same, while what stands in slots that nothing uses is dropped.
use Rattle.std.proofs.Common.{◌≡◌, ◌<◌, ℕ, zero, suc, List, [], ◌∷◌, map, find, length, option_map, refl, sym, ap, ◌∙◌, subst, arith}
use Rattle.std.specs.Prelude.{◌==◌, Option, None, Some, slice_index_or}
use Rattle.std.specs.Option.{option_map_or}
use Rattle.std.specs.FinMap as fin_map
use Rattle.std.proofs.lemmas.List.{ext_get_or, length-map}
use Rattle.rr_slots.specs.Pools.{Written}
use Rattle.rr_table.specs.TableView.{TableEntry}
use Rattle.rr_table.proofs.MapLaws.{map_values-same}
use Rattle.rr_sender.specs.Senders.{Messages, content_at, queue_at, times, uses}
use Rattle.rr_sender.proofs.EntryLaws.{mark-same}
use Rattle.rr_protocol.specs.Keys.{RequestKey, ResponseKey}
use Rattle.rr_protocol.specs.Messages.{RequestMessage, ResponseMessage}
use Rattle.rr_store.specs.declared.handle_entry.HandleEntry.{HandleEntry}
use Rattle.rr_store.specs.declared.details.RequestDetails.{RequestDetails}
use Rattle.rr_store.specs.declared.details.ResponseDetails.{ResponseDetails}
use Rattle.rr_store.specs.Emptying.{MessagesEmptied, SenderEmptied, SendersEmptied, PartsEmptied}
use Rattle.rr_store.specs.Parts.{Parts, ClientPart, ServerPart, Sender}
use Rattle.rr_store.specs.Rewrites.{outline_of, SenderRewritten, SendersRewritten}
use Rattle.rr_store.specs.Sound.{IsSoundStore, IsCounted, Hand}
use Rattle.rr_store.specs.Views.{sender_of, no_sender, no_request, no_response, state_of, request_in_slot, response_in_slot, handle_of, requests_at, responses_at, no_server, marked}
use Rattle.rr_store.proofs.base.frames.Rewrites.{rewritten_sound}
use Rattle.rr_store.proofs.base.hands.Stages.{handle_uses_request, handle_uses_response}
use Rattle.rr_store.proofs.base.lists.Replaced.{find_mapped}
use Rattle.rr_store.proofs.base.senders.Queues.{times_queue}
use Rattle.rr_store.proofs.base.views.Agreeing.{same_handle, same_requests, same_responses, same_state, same_expired}

-- what is made of each slot that a list has
map_listed : {Y : Type 0} (f g : ℕ → Y) (slots : List ℕ) → ((i : ℕ) → 0 < times i slots → g i ≡ f i) → map g slots ≡ map f slots
map_listed f g [] same = refl
map_listed {Y} f g (x ∷ slots) same =
    ap (λ (y : Y). y ∷ map g slots) (same x (omega (arith, mark-same x)))
    ∙ ap (λ (ys : List Y). f x ∷ ys) (map_listed f g slots (λ i h. same i (omega (arith, h))))

module _ {T N H : Type 0} where
  -- all but what stands in slots is as before
  sender_rewritten : (before after : Sender T N H) → SenderEmptied before after → SenderRewritten before after
  sender_rewritten before after e = record {
    outline = ap outline_of e.rest ∙ ap (λ (m : Messages T N H). outline_of (record before { messages = m })) e.messages.rest;
    contents = e.messages.many;
    user_headers = ap (λ (m : Messages T N H). length m.user_headers) e.messages.rest;
    marks = ap (λ (l : Sender T N H). length l.may_answer) e.rest;
    none_more = λ i server fits none. ap (λ (l : Sender T N H). slice_index_or l.may_answer i no_server == server) e.rest ∙ none;
  }

  pub senders_rewritten : (before after : List (Sender T N H)) → SendersEmptied before after → SendersRewritten before after
  senders_rewritten before after e = record {
    many = e.many;
    each = λ l. sender_rewritten (sender_of l before) (sender_of l after) (e.each l);
  }

module _ {T N H M : Type 0} (show : List N → List H → Written T → ℕ → M) where
  -- what is seen of a slot, and of a queue
  abbrev shown : Messages T N H → ℕ → M
  shown m slot = show m.details m.user_headers (content_at m slot) slot

  abbrev waits : ℕ → ℕ → Messages T N H → List M
  waits receiver channel m = map (shown m) (queue_at m receiver channel)

  module _ (before after : Messages T N H) (e : MessagesEmptied before after) where
    pub shown_same : (slot : ℕ) → 0 < uses before slot → shown after slot ≡ shown before slot
    shown_same slot used = ap (λ (m : Messages T N H). show m.details m.user_headers (content_at after slot) slot) e.rest
        ∙ ap (λ (w : Written T). show before.details before.user_headers w slot) (e.used slot used)

    waits_same : (receiver channel : ℕ) → waits receiver channel after ≡ waits receiver channel before
    waits_same receiver channel = ap (λ (m : Messages T N H). map (shown after) (queue_at m receiver channel)) e.rest
        ∙ map_listed (shown before) (shown after) (queue_at before receiver channel)
        (λ i h. shown_same i (omega (arith, h, times_queue before i receiver channel)))

  -- whose a sender is, and what waits in a queue of it
  abbrev told : ℕ → ℕ → Sender T N H → ℕ × List M
  told receiver channel l = (l.owner, waits receiver channel l.messages)

  told_same : (before after : List (Sender T N H)) → SendersEmptied before after → (receiver channel : ℕ)
      → map (told receiver channel) after ≡ map (told receiver channel) before
  told_same before after e receiver channel =
      ext_get_or (told receiver channel no_sender) (map (told receiver channel) after) (map (told receiver channel) before)
      (length-map after (told receiver channel) ∙ e.many ∙ sym (length-map before (told receiver channel)))
      (λ l h. told_at after l
      ∙ ap (λ owner. (owner, waits receiver channel (sender_of l after).messages)) (ap (λ (x : Sender T N H). x.owner) (e.each l).rest)
      ∙ ap (λ (queue : List M). ((sender_of l before).owner, queue))
      (waits_same (sender_of l before).messages (sender_of l after).messages (e.each l).messages receiver channel)
      ∙ sym (told_at before l))
    where
      told_at : (senders : List (Sender T N H)) (l : ℕ)
          → slice_index_or (map (told receiver channel) senders) l (told receiver channel no_sender) ≡ told receiver channel (sender_of l senders)
      told_at [] l = refl
      told_at (x ∷ senders) zero = refl
      told_at (x ∷ senders) (suc l) = told_at senders l

  -- what waits in the sender of a port
  pub found_same : (before after : List (Sender T N H)) → SendersEmptied before after → (owner receiver channel : ℕ)
      → option_map_or (λ l. waits receiver channel l.messages) (find (λ (l : Sender T N H). l.owner == owner) after) []
      ≡ option_map_or (λ l. waits receiver channel l.messages) (find (λ (l : Sender T N H). l.owner == owner) before) []
  found_same before after e owner receiver channel =
      by after
      ∙ ap (λ (xs : List (ℕ × List M)). option_map_or (λ x. x.1) (find (λ x. x.0 == owner) xs) []) (told_same before after e receiver channel)
      ∙ sym (by before)
    where
      of_mapped : (o : Option (Sender T N H)) → option_map_or (λ (x : ℕ × List M). x.1) (option_map (told receiver channel) o) []
          ≡ option_map_or (λ l. waits receiver channel l.messages) o []
      of_mapped None = refl
      of_mapped (Some x) = refl

      by : (xs : List (Sender T N H)) → option_map_or (λ l. waits receiver channel l.messages)
          (find (λ (l : Sender T N H). l.owner == owner) xs) []
          ≡ option_map_or (λ (x : ℕ × List M). x.1) (find (λ (x : ℕ × List M). x.0 == owner) (map (told receiver channel) xs)) []
      by xs = sym (ap (λ (o : Option (ℕ × List M)). option_map_or (λ (x : ℕ × List M). x.1) o [])
          (find_mapped (told receiver channel) (λ (x : ℕ × List M). x.0 == owner) xs)
          ∙ of_mapped (find (λ (l : Sender T N H). l.owner == owner) xs))

module _ {Q QH P PH K : Type 0} (p : Parts Q QH P PH K) (hand : Hand)
    (client_senders : List (Sender Q RequestDetails QH)) (server_senders : List (Sender P ResponseDetails PH))
    (c : SendersEmptied p.client_senders client_senders) (s : SendersEmptied p.server_senders server_senders) where
  -- the core with those senders
  abbrev other_senders : Parts Q QH P PH K
  other_senders = record p { client_senders = client_senders; server_senders = server_senders }

  -- how a request is seen, and a response
  abbrev request_shown : List RequestDetails → List QH → Written Q → ℕ → RequestMessage Q QH
  request_shown details headers w slot =
      let d = slice_index_or details slot no_request in
      record {
        number = d.number;
        client = d.client;
        request_id = d.request_id;
        channel = slot;
        content = record {
          user_header = slice_index_or headers slot p.spare_request_header;
          asked_len = w.asked_len;
          elements = w.elements;
        };
      }

  abbrev response_shown : List ResponseDetails → List PH → Written P → ℕ → ResponseMessage P PH
  response_shown details headers w slot =
      let d = slice_index_or details slot no_response in
      record {
        number = d.number;
        server = d.server;
        active_request = d.active_request;
        request = d.request;
        request_id = d.request_id;
        client = d.client;
        channel = d.channel;
        content = record {
          user_header = slice_index_or headers slot p.spare_response_header;
          asked_len = w.asked_len;
          elements = w.elements;
        };
      }

  requests_same : (key : RequestKey) → requests_at other_senders key ≡ requests_at p key
  requests_same key = go (find (λ s. s.port.id == key.server) p.servers)
    where
      go : (server : Option (ServerPart K)) → option_map_or (λ s. option_map_or
          (λ l. map (request_in_slot p.spare_request_header l.messages) (queue_at l.messages s.receiver 0))
          (find (λ (l : Sender Q RequestDetails QH). l.owner == key.client) client_senders) []) server []
          ≡ option_map_or (λ s. option_map_or
          (λ l. map (request_in_slot p.spare_request_header l.messages) (queue_at l.messages s.receiver 0))
          (find (λ (l : Sender Q RequestDetails QH). l.owner == key.client) p.client_senders) []) server []
      go None = refl
      go (Some s) = found_same request_shown p.client_senders client_senders c key.client s.receiver 0

  responses_same : (key : ResponseKey) → responses_at other_senders key ≡ responses_at p key
  responses_same key = go (find (λ c. c.port.id == key.client) p.clients)
    where
      go : (client : Option (ClientPart K)) → option_map_or (λ c. option_map_or
          (λ l. map (response_in_slot p.spare_response_header l.messages) (queue_at l.messages c.receiver key.channel))
          (find (λ (l : Sender P ResponseDetails PH). l.owner == key.server) server_senders) []) client []
          ≡ option_map_or (λ c. option_map_or
          (λ l. map (response_in_slot p.spare_response_header l.messages) (queue_at l.messages c.receiver key.channel))
          (find (λ (l : Sender P ResponseDetails PH). l.owner == key.server) p.server_senders) []) client []
      go None = refl
      go (Some c) = found_same response_shown p.server_senders server_senders s key.server c.receiver key.channel

  -- each handle has its slot in use
  handles_same : IsCounted p hand → (k : ℕ) (t : TableEntry HandleEntry) → fin_map.get p.table.entries k ≡ Some t
      → handle_of other_senders t ≡ handle_of p t
  handles_same counted k t at =
      same_handle other_senders p t.value.stage t.value.sender t.value.slot
      (λ is. (
        shown_same request_shown (sender_of t.value.sender p.client_senders).messages (sender_of t.value.sender client_senders).messages
            (c.each t.value.sender).messages t.value.slot (handle_uses_request p hand counted k t at is),
        ap (λ (l : Sender Q RequestDetails QH). marked p.limits.max_servers p.servers l.may_answer t.value.slot) (c.each t.value.sender).rest,
      ))
      (λ is. shown_same response_shown (sender_of t.value.sender p.server_senders).messages
      (sender_of t.value.sender server_senders).messages (s.each t.value.sender).messages t.value.slot
      (handle_uses_response p hand counted k t at is))

  senders_view : IsCounted p hand → state_of other_senders ≡ state_of p
  senders_view counted =
      same_state (state_of other_senders) (state_of p) refl refl refl refl
      (map_values-same (handle_of other_senders) (handle_of p) p.table.entries (handles_same counted))
      (same_requests other_senders p requests_same) (same_responses other_senders p responses_same)
      (same_expired _ _ (same_requests other_senders p requests_same) (same_responses other_senders p responses_same)) refl

  senders_sound : IsSoundStore p hand → IsSoundStore other_senders hand
  senders_sound sound = rewritten_sound p hand sound client_senders server_senders
      (senders_rewritten p.client_senders client_senders c) (senders_rewritten p.server_senders server_senders s)

module _ {Q QH P PH K : Type 0} (p q : Parts Q QH P PH K) (e : PartsEmptied p q) where
  -- what is true of a core stays true
  pub emptied_sound : (hand : Hand) → IsSoundStore p hand → IsSoundStore q hand
  emptied_sound hand sound = subst (λ q. IsSoundStore q hand) (sym e.rest)
      (senders_sound p hand q.client_senders q.server_senders e.client_senders e.server_senders sound)

  -- contracts see the same
  pub emptied_view : (hand : Hand) → IsSoundStore p hand → state_of q ≡ state_of p
  emptied_view hand sound = ap state_of e.rest
      ∙ senders_view p hand q.client_senders q.server_senders e.client_senders e.server_senders sound.counted
