-- A server is added with a new sender, behind all others or in the place of one that nothing uses.
use Rattle.std.proofs.Common.{◌≡◌, ◌≢◌, ◌<◌, ◌≤◌, ◌+◌, ◌^◌, ℕ, false, None, Some, Result, Ok, Err, length, map, refl, sym, ap, ◌∙◌, subst, arith}
use Rattle.std.specs.Prelude.{OnErr, OnOk, filter, max, slice_get, slice_set}
use Rattle.std.specs.List.{remove}
use Rattle.rr_table.specs.TableView.{IsRenewed}
use Rattle.std.proofs.Math.Nat.{max_comm}
use Rattle.std.proofs.lemmas.Bool.{leb-false}
use Rattle.rr_sender.specs.Senders.{Messages}
use Rattle.rr_protocol.specs.declared.limits.Limits.{Limits}
use Rattle.rr_protocol.specs.declared.settings.ServerSettings.{ServerSettings}
use Rattle.rr_protocol.specs.Creation.{loans_of, pool_size_of, server_refusal, with_server}
use Rattle.rr_protocol.specs.Limits.{hub_refusal, is_too_large, max_loaned_responses, worst_case_requests, worst_case_responses}
use Rattle.rr_laws.specs.Complete.{MessagesComplete}
use Rattle.rr_laws.specs.Reached.{IsReached}
use Rattle.rr_laws.proofs.Creating.{with_server_reached}
use Rattle.rr_store.specs.declared.details.ResponseDetails.{ResponseDetails}
use Rattle.rr_store.specs.Asked.{CanTakeOver}
use Rattle.rr_store.specs.Changes.{with_new_server, with_server_again}
use Rattle.rr_store.specs.Creating.{IsNew, Site, idle_left, last_server_site, left_at, left_server_site, new_server_sender, server_port, with_server_part}
use Rattle.rr_store.specs.Draining.{AreThere}
use Rattle.rr_store.specs.Expired.{responses_from}
use Rattle.rr_store.specs.Parts.{Parts, ServerPart}
use Rattle.rr_store.specs.Reaching.{IsCore}
use Rattle.rr_store.specs.Sound.{IsSoundStore, empty_hand}
use Rattle.rr_store.specs.Views.{no_response, response_lists, sender_of, state_of}
use Rattle.rr_store.proofs.base.lists.Adding.{fewer_servers, server_not_refused, some_clients}
use Rattle.rr_creating.proofs.laws.server.Sound.{server_sound}
use Rattle.rr_creating.proofs.laws.server.View.{server_view}
use Rattle.rr_creating.proofs.laws.IdleLeft.{server_unlisted}
use Rattle.rr_creating.proofs.laws.Renewed.{renewed_table}
use Rattle.rr_creating.proofs.laws.Sites.{IsSited, idle_listed, idle_sender, last_sited, left_sited, response_elsewhere}
use Rattle.rr_store.proofs.base.views.Agreeing.{request_sender, response_sender}

module _ {Q QH P PH K : Type 0} (p : Parts Q QH P PH K) (core : IsCore p) (settings : ServerSettings K)
    (due : server_refusal (state_of p) settings ≡ None)
    (can_leave : length p.servers + 1 + length p.left_servers ≤ p.server_room) where
  -- one more server may be connected
  pub room_asked : length p.servers < p.limits.max_servers
  room_asked = fewer_servers p settings due

  -- a number is left
  pub next_asked : p.next + 1 < 2 ^ 64
  next_asked = omega (arith, (server_not_refused (state_of p) settings due).0)

  -- and some client may be
  pub clients_asked : 0 < p.limits.max_clients
  clients_asked = some_clients p.limits core.sound.sized.limits_fit

  -- each server that left has a sender
  pub there_asked : AreThere p.server_senders p.left_servers
  there_asked = λ i l at. (core.sound.have_ports.left_servers.own i l at).0

  -- and one whose sender is idle has a row
  pub left_asked : (index : ℕ) → Some index ≡ idle_left p.server_senders p.left_servers
      → CanTakeOver p.server_senders p.left_servers p.table.rows index
  left_asked index found =
      let left = core.sound.have_ports.left_servers in
      let there = idle_sender left index (sym found) in
      record { listed = idle_listed left index (sym found); there = there; row = (core.sound.inserted.server_rows _ there).0 }

  module _ (limits : Limits) (are : limits ≡ p.limits) where
    -- the limits make a hub
    pub hub_asked : hub_refusal limits ≡ None
    hub_asked = ap hub_refusal are ∙ core.sound.sized.limits_fit

    module _ (loans : ℕ) (loaned : loans ≡ max settings.loans 1) where
      -- the loans that the settings say
      loans_are : loans ≡ loans_of settings
      loans_are = loaned ∙ max_comm settings.loans 1

      -- a `usize` counts the slots
      pub counts_asked : is_too_large (worst_case_responses limits loans) ≡ false
      counts_asked =
          ap (λ l. is_too_large (worst_case_responses l loans)) are
          ∙ ap (λ n. is_too_large (worst_case_responses p.limits n)) loans_are
          ∙ (server_not_refused (state_of p) settings due).2

      -- and the responses that the server may have on loan
      pub loans_asked : max_loaned_responses p.limits loans < 2 ^ 64
      loans_asked = omega (
        arith,
        leb-false (2 ^ 64) (worst_case_responses limits loans) counts_asked,
        ap (λ l. worst_case_responses l loans) are,
      )

      module _ (worst : ℕ) (most : worst ≡ worst_case_responses limits loans) (slots : ℕ)
          (many : slots ≡ pool_size_of worst settings.pool)
          (receiver : ℕ) (inside : receiver < p.limits.max_servers)
          (vacant : (i : ℕ) (s : ServerPart K) → slice_get p.servers i ≡ Some s → s.receiver ≢ receiver)
          (messages : Messages P ResponseDetails PH)
          (new : IsNew slots settings.initial_max_slice_len limits.max_clients (worst_case_requests limits) limits.max_response_buffer_size
          no_response messages) where
        abbrev pool : ℕ
        pool = (server_port p settings).pool_size

        -- as many slots as the settings say
        slots_are : slots ≡ pool
        slots_are = many ∙ ap (λ w. pool_size_of w settings.pool)
            (most ∙ ap (λ l. worst_case_responses l loans) are ∙ ap (worst_case_responses p.limits) loans_are)

        -- the sender is new
        is_new : IsNew pool settings.initial_max_slice_len p.limits.max_clients (worst_case_requests p.limits)
            p.limits.max_response_buffer_size no_response messages
        is_new =
            subst (λ n. IsNew n settings.initial_max_slice_len p.limits.max_clients (worst_case_requests p.limits)
            p.limits.max_response_buffer_size no_response messages) slots_are
            (subst (λ (l : Limits). IsNew slots settings.initial_max_slice_len l.max_clients (worst_case_requests l)
            l.max_response_buffer_size no_response messages) are new)

        -- a server that sends from a new sender in a site
        module _ (site : Site P ResponseDetails PH)
            (sited : IsSited (map (λ (s : ServerPart K). s.connected) p.servers) p.left_servers p.server_senders p.client_senders
            p.table.rows pool (new_server_sender p site.row receiver messages) site)
            (unlisted : (n : ℕ) → filter (responses_from (response_lists p) n) (map (λ l. l.number) site.left)
            ≡ filter (responses_from (response_lists p) n) (map (λ l. l.number) p.left_servers))
            (q : Parts Q QH P PH K) (after : q ≡ with_server_part p settings receiver site) where
          -- what contracts see of it
          site_view : state_of q ≡ with_server (state_of p) settings
          site_view = ap state_of after
              ∙ server_view p settings receiver messages site core.sound pool settings.initial_max_slice_len p.limits.max_clients
              (worst_case_requests p.limits) p.limits.max_response_buffer_size is_new vacant inside sited.put unlisted

          -- and what is true then
          site_core : IsCore q
          site_core = record {
            sound = subst (λ q. IsSoundStore q empty_hand) (sym after)
                (server_sound p settings receiver messages site core.sound sited is_new inside vacant room_asked
                (server_not_refused (state_of p) settings due).0 can_leave);
            reached = subst (λ s. IsReached s) (sym site_view) (with_server_reached (state_of p) core.reached settings due);
            complete = subst (λ s. MessagesComplete s) (sym site_view) core.complete;
          }

        -- behind all others
        last_is : IsSited (map (λ (s : ServerPart K). s.connected) p.servers) p.left_servers p.server_senders p.client_senders p.table.rows
            pool (new_server_sender p (length p.table.rows) receiver messages) (last_server_site p settings receiver messages)
        last_is = last_sited pool core.sound.have_ports.left_servers (λ l h. (core.sound.inserted.server_rows l h).0) _
            (λ i s at. (core.sound.server_ports.own i s at).0) (λ l h. (core.sound.inserted.client_rows l h).0)

        module _ (q : Parts Q QH P PH K) where
          -- the parts after it
          after_last : q ≡ with_new_server p settings loans slots receiver messages
              → q ≡ with_server_part p settings receiver (last_server_site p settings receiver messages)
          after_last added =
              added ∙ ap (λ n. with_new_server p settings n slots receiver messages) loans_are
              ∙ ap (λ n. with_new_server p settings (loans_of settings) n receiver messages) slots_are

          -- what is true, whether it was added or not
          pub core_then : {E : Type 0} (result : Result ℕ E)
              → OnOk result (q ≡ with_new_server p settings loans slots receiver messages) → OnErr result (q ≡ p) → IsCore q
          core_then (Ok number) ok err = site_core _ last_is (λ n. refl) q (after_last ok)
          core_then (Err error) ok err = subst IsCore (sym err) core

          -- what contracts see, if it was added
          pub ok_then : {E : Type 0} (result : Result ℕ E)
              → OnOk result (q ≡ with_new_server p settings loans slots receiver messages)
              → OnOk result (state_of q ≡ with_server (state_of p) settings)
          ok_then (Ok number) ok = site_view _ last_is (λ n. refl) q (after_last ok)
          ok_then (Err error) ok = tt

        -- in the place of a server that left
        module _ (index : ℕ) (found : Some index ≡ idle_left p.server_senders p.left_servers) where
          idle : idle_left p.server_senders p.left_servers ≡ Some index
          idle = sym found

          left_is : IsSited (map (λ (s : ServerPart K). s.connected) p.servers) p.left_servers p.server_senders p.client_senders
              p.table.rows pool (new_server_sender p (left_server_site p settings receiver messages index).row receiver messages)
              (left_server_site p settings receiver messages index)
          left_is = left_sited pool core.sound.have_ports.left_servers (λ l h. (core.sound.inserted.server_rows l h).0)
              (λ row. new_server_sender p row receiver messages) index idle core.sound.sized.server_senders
              core.sound.inserted.server_rows_apart (λ l k h g same. core.sound.inserted.rows_apart k l g h (sym same))

          unlisted : (n : ℕ) → filter (responses_from (response_lists p) n) (map (λ l. l.number) (remove p.left_servers index))
              ≡ filter (responses_from (response_lists p) n) (map (λ l. l.number) p.left_servers)
          unlisted = server_unlisted p core.sound index (idle_listed core.sound.have_ports.left_servers index idle) left_is.put.idle

          module _ (q : Parts Q QH P PH K) where
            -- the parts after it
            after_left : q ≡ with_server_again p settings loans slots receiver messages index q.table
                → IsRenewed (sender_of (left_at index p.left_servers).sender p.server_senders).row slots p.table q.table
                → q ≡ with_server_part p settings receiver (left_server_site p settings receiver messages index)
            after_left added renewed =
                added ∙ ap (λ n. with_server_again p settings n slots receiver messages index q.table) loans_are
                ∙ ap (λ n. with_server_again p settings (loans_of settings) n receiver messages index q.table) slots_are
                ∙ ap (with_server_again p settings (loans_of settings) pool receiver messages index)
                (renewed_table p core.sound _
                (λ k s at is. left_is.other_rows s.value.sender (request_sender p empty_hand core.sound.counted k s at is))
                (λ k s at is. left_is.rows_apart s.value.sender
                (response_elsewhere p core.sound.counted _ left_is.put.idle k s at is)
                (response_sender p empty_hand core.sound.counted k s at is))
                slots q.table renewed)
                ∙ ap (λ n. with_server_again p settings (loans_of settings) pool receiver messages index
                (record p.table {
                  rows = slice_set p.table.rows (sender_of (left_at index p.left_servers).sender p.server_senders).row n;
                })) slots_are

            -- what is true, whether it was added or not
            pub core_again : {E : Type 0} (result : Result ℕ E)
                → OnOk result (q ≡ with_server_again p settings loans slots receiver messages index q.table)
                → OnOk result (IsRenewed (sender_of (left_at index p.left_servers).sender p.server_senders).row slots p.table q.table)
                → OnErr result (q ≡ p) → IsCore q
            core_again (Ok number) ok renewed err = site_core _ left_is unlisted q (after_left ok renewed)
            core_again (Err error) ok renewed err = subst IsCore (sym err) core

            -- what contracts see, if it was added
            pub ok_again : {E : Type 0} (result : Result ℕ E)
                → OnOk result (q ≡ with_server_again p settings loans slots receiver messages index q.table)
                → OnOk result (IsRenewed (sender_of (left_at index p.left_servers).sender p.server_senders).row slots p.table q.table)
                → OnOk result (state_of q ≡ with_server (state_of p) settings)
            ok_again (Ok number) ok renewed = site_view _ left_is unlisted q (after_left ok renewed)
            ok_again (Err error) ok renewed = tt
