-- The kind of a handle by its stage.
use Rattle.rr_protocol.specs.declared.kind.Kind.{Kind}
use Rattle.rr_store.specs.declared.handle_entry.Stage.{Stage}
use Rattle.rr_store.specs.declared.handle_entry.Stage.TheVariants as stage

-- the kind of a handle in this stage
abbrev pub stage_kind : Stage → Kind
stage_kind stage.RequestMutUninit = Kind.RequestMutUninit
stage_kind stage.RequestMut = Kind.RequestMut
stage_kind (stage.PendingResponse hint connections) = Kind.PendingResponse
stage_kind (stage.ActiveRequest server loans) = Kind.ActiveRequest
stage_kind stage.ResponseMutUninit = Kind.ResponseMutUninit
stage_kind stage.ResponseMut = Kind.ResponseMut
stage_kind stage.Response = Kind.Response
