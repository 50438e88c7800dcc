-- The stage of a request that can be sent.
use Rattle.std.proofs.Common.{◌≡◌, refl}
use Rattle.rr_protocol.specs.declared.kind.Kind.{Kind}
use Rattle.rr_store.specs.declared.handle_entry.Stage.{Stage}
use Rattle.rr_store.specs.declared.handle_entry.Stage.TheVariants as stage
use Rattle.rr_store.specs.Kinds.{stage_kind}

-- the stage of the kind
pub request_stage : (g : Stage) → stage_kind g ≡ Kind.RequestMut → g ≡ stage.RequestMut
request_stage stage.RequestMut h = refl
request_stage stage.RequestMutUninit h = absurd (let f : Kind.RequestMutUninit ≡ Kind.RequestMut = h in cc)
request_stage (stage.PendingResponse hint connections) h = absurd (let f : Kind.PendingResponse ≡ Kind.RequestMut = h in cc)
request_stage (stage.ActiveRequest server loans) h = absurd (let f : Kind.ActiveRequest ≡ Kind.RequestMut = h in cc)
request_stage stage.ResponseMutUninit h = absurd (let f : Kind.ResponseMutUninit ≡ Kind.RequestMut = h in cc)
request_stage stage.ResponseMut h = absurd (let f : Kind.ResponseMut ≡ Kind.RequestMut = h in cc)
request_stage stage.Response h = absurd (let f : Kind.Response ≡ Kind.RequestMut = h in cc)
