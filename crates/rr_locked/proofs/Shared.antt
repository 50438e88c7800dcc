-- A ledger's tokens name no thread's key, so a reference to a share may go to another thread too, and a reference to a hub.
use mathlib.Core.List.{List, [], ◌∷◌}
use mir.Syntax.{Sym}
use denote.Ref.{NamedLft}
use denote.RattleType.{RattleType}
use denote.Param.{param}
use denote.Struct.Declared.{shape}
use denote.Struct.Field.{shr_ref_field, rows}
use denote.Struct.Tuple.{TupleAt, parts, field_at, type_at}
use denote.Param.Send.{IsSend, IsSync, AllSend, AllSync, part_keyless, struct_sync, recorded_sync, view_sync, param_sync, shr_send, shr_sync, struct_send, recorded_send}
use Rattle.core.proofs.ledger.Sent.{share_send}
use Rattle.core.proofs.sync.Sent.{Mutex-sync}
use Rattle.core.specs.declared.ledger.Ledger.{Ghosts}
use Rattle.core.specs.contracts.ledger.Share as share
use Rattle.rr_locked.specs.contracts.book.Book as book
use Rattle.rr_locked.specs.contracts.opening.Opening as opening
use Rattle.rr_locked.specs.contracts.locked_hub.LockedHub as hub
use Rattle.rr_locked.specs.contracts.locked_hub.LockedHub.TheInside as inside
use Rattle.rr_protocol.proofs.limits.Limits.TheSendSync as limits_crosses
use Rattle.rr_protocol.proofs.identifiers.UniqueNodeId.TheSendSync as node_id_crosses
use Rattle.rr_locked.proofs.book.Book.TheSendSync as book_crosses

module _ (L : RattleType) (g : Ghosts L.Denot) where
  share_sync : IsSync (share.the_row L g)
  share_sync = record { shared = λ d b o κ q. part_keyless (share.the_row L g) (share_send L g) q d b o }

  opening_sync : IsSync (opening.the_field L g).row
  opening_sync = struct_sync (shape (opening.the_type L g)) (limits_crosses.the_field_sync, (node_id_crosses.the_field_sync, (share_sync, tt)))

  -- a hub may be shared by reference
  pub hub_sync : IsSync (hub.the_row L g)
  hub_sync =
      view_sync (inside.the_row L g) _ _ _ _ (recorded_sync (inside.the_field L g).row _ _ (inside.the_type L g).to_one (struct_sync (shape (inside.the_type L g)) (Mutex-sync (book.the_row L g) (book_crosses.the_send L g), (opening_sync, tt))))

parts_send : (Ts : List RattleType) → AllSend Ts → AllSend (rows (parts Ts))
parts_send [] sent = tt
parts_send (R ∷ Ts) sent = (sent.0, parts_send Ts sent.1)

-- what a thread's closure holds may go to another thread: the runtime, a hub, and others of which each may
pub caller_send : (ν : Sym) (L R : RattleType) (g : Ghosts L.Denot) (a b : NamedLft) (Ts : List RattleType) → IsSync R → AllSend Ts
    → IsSend (TupleAt ν ((shr_ref_field a (param 1 R) tt).row ∷ (shr_ref_field b (hub.the_row (param 0 L) g) tt).row ∷ Ts))
caller_send ν L R g a b Ts s rest =
    let all : List RattleType = (shr_ref_field a (param 1 R) tt).row ∷ (shr_ref_field b (hub.the_row (param 0 L) g) tt).row ∷ Ts in
    recorded_send (field_at ν all).row _ _ (type_at ν all).to_one (struct_send (shape (type_at ν all)) (shr_send _ _ _ (param_sync 1 R s), (shr_send _ _ _ (hub_sync (param 0 L) g), parts_send Ts rest)))

parts_sync : (Ts : List RattleType) → AllSync Ts → AllSync (rows (parts Ts))
parts_sync [] shared = tt
parts_sync (R ∷ Ts) shared = (shared.0, parts_sync Ts shared.1)

-- such a closure may be shared, if each of the others may
pub caller_sync : (ν : Sym) (L R : RattleType) (g : Ghosts L.Denot) (a b : NamedLft) (Ts : List RattleType) → IsSync R → AllSync Ts
    → IsSync (TupleAt ν ((shr_ref_field a (param 1 R) tt).row ∷ (shr_ref_field b (hub.the_row (param 0 L) g) tt).row ∷ Ts))
caller_sync ν L R g a b Ts s rest =
    let all : List RattleType = (shr_ref_field a (param 1 R) tt).row ∷ (shr_ref_field b (hub.the_row (param 0 L) g) tt).row ∷ Ts in
    recorded_sync (field_at ν all).row _ _ (type_at ν all).to_one (struct_sync (shape (type_at ν all)) (shr_sync _ _ _ (param_sync 1 R s), (shr_sync _ _ _ (hub_sync (param 0 L) g), parts_sync Ts rest)))
