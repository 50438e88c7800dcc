-- A client is added with a new sender, behind all others or in the place of one that nothing uses.
use Rattle.std.proofs.Common.{◌≡◌, ◌≢◌, ◌<◌, ◌≤◌, ◌+◌, ◌*◌, ◌^◌, ℕ, List, None, Some, Result, Ok, Err, length, map, refl, replicate, sym, ap, ◌∙◌, subst, arith}
use Rattle.std.specs.Prelude.{OnErr, OnOk, filter, slice_get, slice_set}
use Rattle.std.specs.List.{remove}
use Rattle.rr_table.specs.TableView.{IsRenewed}
use Rattle.rr_sender.specs.Senders.{Messages}
use Rattle.rr_protocol.specs.declared.limits.Limits.{Limits}
use Rattle.rr_protocol.specs.declared.settings.ClientSettings.{ClientSettings}
use Rattle.rr_protocol.specs.Creation.{client_refusal, pool_size_of, with_client}
use Rattle.rr_protocol.specs.Limits.{hub_refusal, worst_case_requests}
use Rattle.rr_laws.specs.Complete.{MessagesComplete}
use Rattle.rr_laws.specs.Reached.{IsReached}
use Rattle.rr_laws.proofs.Creating.{with_client_reached}
use Rattle.rr_store.specs.declared.details.RequestDetails.{RequestDetails}
use Rattle.rr_store.specs.Asked.{CanTakeOver}
use Rattle.rr_store.specs.Changes.{with_client_again, with_new_client}
use Rattle.rr_store.specs.Creating.{IsNew, Site, client_port, client_row_len, idle_left, last_client_site, left_at, left_client_site, new_client_sender, with_client_part}
use Rattle.rr_store.specs.Draining.{AreThere}
use Rattle.rr_store.specs.Expired.{requests_from}
use Rattle.rr_store.specs.Parts.{ClientPart, Parts}
use Rattle.rr_store.specs.Reaching.{IsCore}
use Rattle.rr_store.specs.Sound.{IsSoundStore, empty_hand}
use Rattle.rr_store.specs.Views.{no_request, no_server, request_lists, sender_of, state_of}
use Rattle.rr_store.proofs.base.lists.Adding.{fewer, not_refused}
use Rattle.rr_creating.proofs.laws.client.Sound.{client_sound}
use Rattle.rr_creating.proofs.laws.client.View.{client_view}
use Rattle.rr_creating.proofs.laws.IdleLeft.{client_unlisted}
use Rattle.rr_creating.proofs.laws.Renewed.{renewed_table}
use Rattle.rr_creating.proofs.laws.Sites.{IsSited, idle_listed, idle_sender, last_sited, left_sited, request_elsewhere}
use Rattle.rr_store.proofs.base.views.Agreeing.{request_sender, response_sender}

module _ {Q QH P PH K : Type 0} (p : Parts Q QH P PH K) (core : IsCore p) (settings : ClientSettings K)
    (due : client_refusal (state_of p) ≡ None)
    (can_leave : length p.clients + 1 + length p.left_clients ≤ p.client_room) where
  -- one more client may be connected
  pub room_asked : length p.clients < p.limits.max_clients
  room_asked = fewer p due

  -- a number is left
  pub next_asked : p.next + 1 < 2 ^ 64
  next_asked = omega (arith, (not_refused (state_of p) due).0)

  -- each client that left has a sender
  pub there_asked : AreThere p.client_senders p.left_clients
  there_asked = λ i l at. (core.sound.have_ports.left_clients.own i l at).0

  -- and one whose sender is idle has a row
  pub left_asked : (index : ℕ) → Some index ≡ idle_left p.client_senders p.left_clients
      → CanTakeOver p.client_senders p.left_clients p.table.rows index
  left_asked index found =
      let left = core.sound.have_ports.left_clients in
      let there = idle_sender left index (sym found) in
      record { listed = idle_listed left index (sym found); there = there; row = (core.sound.inserted.client_rows _ there).0 }

  module _ (limits : Limits) (are : limits ≡ p.limits) where
    -- the limits make a hub
    pub hub_asked : hub_refusal limits ≡ None
    hub_asked = ap hub_refusal are ∙ core.sound.sized.limits_fit

    module _ (worst : ℕ) (most : worst ≡ worst_case_requests limits) (slots : ℕ) (many : slots ≡ pool_size_of worst settings.pool)
        (receiver : ℕ) (inside : receiver < p.limits.max_clients)
        (vacant : (i : ℕ) (c : ClientPart K) → slice_get p.clients i ≡ Some c → c.receiver ≢ receiver)
        (messages : Messages Q RequestDetails QH)
        (new : IsNew slots settings.initial_max_slice_len limits.max_servers 1 limits.max_active_requests_per_client no_request messages)
        (marks : List ℕ) (none : marks ≡ replicate (slots * limits.max_servers) no_server)
        (row_len : ℕ) (row : row_len ≡ (limits.max_servers + 1) * slots) (fits : row_len < 2 ^ 64) where
      abbrev pool : ℕ
      pool = (client_port p settings).pool_size

      -- as many slots as the settings say
      slots_are : slots ≡ pool
      slots_are = many ∙ ap (λ w. pool_size_of w settings.pool) (most ∙ ap worst_case_requests are)

      -- as many marks as slots and servers
      marks_are : marks ≡ replicate (pool * p.limits.max_servers) no_server
      marks_are = none ∙ ap (λ (l : Limits). replicate (slots * l.max_servers) no_server) are
          ∙ ap (λ n. replicate (n * p.limits.max_servers) no_server) slots_are

      -- the length of the row
      row_is : row_len ≡ (p.limits.max_servers + 1) * pool
      row_is = row ∙ ap (λ (l : Limits). (l.max_servers + 1) * slots) are ∙ ap (λ n. (p.limits.max_servers + 1) * n) slots_are

      -- the sender is new
      is_new : IsNew pool settings.initial_max_slice_len p.limits.max_servers 1 p.limits.max_active_requests_per_client no_request messages
      is_new =
          subst (λ n. IsNew n settings.initial_max_slice_len p.limits.max_servers 1 p.limits.max_active_requests_per_client no_request
          messages) slots_are
          (subst (λ (l : Limits). IsNew slots settings.initial_max_slice_len l.max_servers 1 l.max_active_requests_per_client no_request
          messages) are new)

      -- a client that sends from a new sender in a site
      module _ (site : Site Q RequestDetails QH)
          (sited : IsSited (map (λ (c : ClientPart K). c.connected) p.clients) p.left_clients p.client_senders p.server_senders
          p.table.rows (client_row_len p settings) (new_client_sender p settings site.row receiver messages) site)
          (unlisted : (n : ℕ) → filter (requests_from (request_lists p) n) (map (λ l. l.number) site.left)
          ≡ filter (requests_from (request_lists p) n) (map (λ l. l.number) p.left_clients))
          (q : Parts Q QH P PH K) (after : q ≡ with_client_part p settings receiver site) where
        -- what contracts see of it
        site_view : state_of q ≡ with_client (state_of p) settings
        site_view = ap state_of after
            ∙ client_view p settings receiver messages site core.sound pool settings.initial_max_slice_len p.limits.max_servers 1
            p.limits.max_active_requests_per_client is_new vacant sited.put unlisted

        -- and what is true then
        site_core : IsCore q
        site_core = record {
          sound = subst (λ q. IsSoundStore q empty_hand) (sym after)
              (client_sound p settings receiver messages site core.sound sited is_new inside vacant room_asked
              (not_refused (state_of p) due).0 (omega (arith, row_is, fits)) can_leave);
          reached = subst (λ s. IsReached s) (sym site_view) (with_client_reached (state_of p) core.reached settings due);
          complete = subst (λ s. MessagesComplete s) (sym site_view) core.complete;
        }

      -- behind all others
      last_is : IsSited (map (λ (c : ClientPart K). c.connected) p.clients) p.left_clients p.client_senders p.server_senders p.table.rows
          (client_row_len p settings) (new_client_sender p settings (length p.table.rows) receiver messages)
          (last_client_site p settings receiver messages)
      last_is = last_sited (client_row_len p settings) core.sound.have_ports.left_clients
          (λ l h. (core.sound.inserted.client_rows l h).0) _ (λ i c at. (core.sound.client_ports.own i c at).0)
          (λ l h. (core.sound.inserted.server_rows l h).0)

      module _ (q : Parts Q QH P PH K) where
        -- the parts after it
        after_last : q ≡ with_new_client p settings slots receiver messages marks row_len
            → q ≡ with_client_part p settings receiver (last_client_site p settings receiver messages)
        after_last added =
            added ∙ ap (λ n. with_new_client p settings n receiver messages marks row_len) slots_are
            ∙ ap (λ ms. with_new_client p settings pool receiver messages ms row_len) marks_are
            ∙ ap (λ n. with_new_client p settings pool receiver messages (replicate (pool * p.limits.max_servers) no_server) n) row_is

        -- what is true, whether it was added or not
        pub core_then : {E : Type 0} (result : Result ℕ E)
            → OnOk result (q ≡ with_new_client p settings slots receiver messages marks row_len) → OnErr result (q ≡ p) → IsCore q
        core_then (Ok number) ok err = site_core _ last_is (λ n. refl) q (after_last ok)
        core_then (Err error) ok err = subst IsCore (sym err) core

        -- what contracts see, if it was added
        pub ok_then : {E : Type 0} (result : Result ℕ E)
            → OnOk result (q ≡ with_new_client p settings slots receiver messages marks row_len)
            → OnOk result (state_of q ≡ with_client (state_of p) settings)
        ok_then (Ok number) ok = site_view _ last_is (λ n. refl) q (after_last ok)
        ok_then (Err error) ok = tt

      -- in the place of a client that left
      module _ (index : ℕ) (found : Some index ≡ idle_left p.client_senders p.left_clients) where
        idle : idle_left p.client_senders p.left_clients ≡ Some index
        idle = sym found

        left_is : IsSited (map (λ (c : ClientPart K). c.connected) p.clients) p.left_clients p.client_senders p.server_senders p.table.rows
            (client_row_len p settings)
            (new_client_sender p settings (left_client_site p settings receiver messages index).row receiver messages)
            (left_client_site p settings receiver messages index)
        left_is = left_sited (client_row_len p settings) core.sound.have_ports.left_clients
            (λ l h. (core.sound.inserted.client_rows l h).0) (λ row. new_client_sender p settings row receiver messages) index idle
            core.sound.sized.client_senders core.sound.inserted.client_rows_apart core.sound.inserted.rows_apart

        unlisted : (n : ℕ) → filter (requests_from (request_lists p) n) (map (λ l. l.number) (remove p.left_clients index))
            ≡ filter (requests_from (request_lists p) n) (map (λ l. l.number) p.left_clients)
        unlisted = client_unlisted p core.sound index (idle_listed core.sound.have_ports.left_clients index idle) left_is.put.idle

        module _ (q : Parts Q QH P PH K) where
          -- the parts after it
          after_left : q ≡ with_client_again p settings slots receiver messages marks index q.table
              → IsRenewed (sender_of (left_at index p.left_clients).sender p.client_senders).row row_len p.table q.table
              → q ≡ with_client_part p settings receiver (left_client_site p settings receiver messages index)
          after_left added renewed =
              added ∙ ap (λ n. with_client_again p settings n receiver messages marks index q.table) slots_are
              ∙ ap (λ ms. with_client_again p settings pool receiver messages ms index q.table) marks_are
              ∙ ap (with_client_again p settings pool receiver messages (replicate (pool * p.limits.max_servers) no_server) index)
              (renewed_table p core.sound _
              (λ k s at is. left_is.rows_apart s.value.sender
              (request_elsewhere p core.sound.counted _ left_is.put.idle k s at is)
              (request_sender p empty_hand core.sound.counted k s at is))
              (λ k s at is. left_is.other_rows s.value.sender (response_sender p empty_hand core.sound.counted k s at is))
              row_len q.table renewed)
              ∙ ap (λ n. with_client_again p settings pool receiver messages (replicate (pool * p.limits.max_servers) no_server) index
              (record p.table {
                rows = slice_set p.table.rows (sender_of (left_at index p.left_clients).sender p.client_senders).row n;
              })) row_is

          -- what is true, whether it was added or not
          pub core_again : {E : Type 0} (result : Result ℕ E)
              → OnOk result (q ≡ with_client_again p settings slots receiver messages marks index q.table)
              → OnOk result (IsRenewed (sender_of (left_at index p.left_clients).sender p.client_senders).row row_len p.table q.table)
              → OnErr result (q ≡ p) → IsCore q
          core_again (Ok number) ok renewed err = site_core _ left_is unlisted q (after_left ok renewed)
          core_again (Err error) ok renewed err = subst IsCore (sym err) core

          -- what contracts see, if it was added
          pub ok_again : {E : Type 0} (result : Result ℕ E)
              → OnOk result (q ≡ with_client_again p settings slots receiver messages marks index q.table)
              → OnOk result (IsRenewed (sender_of (left_at index p.left_clients).sender p.client_senders).row row_len p.table q.table)
              → OnOk result (state_of q ≡ with_client (state_of p) settings)
          ok_again (Ok number) ok renewed = site_view _ left_is unlisted q (after_left ok renewed)
          ok_again (Err error) ok renewed = tt
