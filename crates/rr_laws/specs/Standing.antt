-- All facts of a history and of the state that it leads to.
use Rattle.std.specs.Prelude.{List}
use Rattle.rr_protocol.specs.State.{State}
use Rattle.rr_protocol.specs.AnswerRule.{Event}
use Rattle.rr_laws.specs.Reached.{IsReached}
use Rattle.rr_laws.specs.Apart.{IsApart}
use Rattle.rr_laws.specs.Left.{IsLeftFit}
use Rattle.rr_laws.specs.Following.{Follows}
use Rattle.rr_laws.specs.Completing.{Completes}

-- the state is reached, it follows from the history, and requests have received everything that is not still in a
-- list
pub record Stands {T H Q QH P PH K : Type 0} (history : List (Event T H K)) (s : State Q QH P PH K) : Type 0 where
  pub fits : IsReached s
  pub apart : IsApart s
  pub left : IsLeftFit s
  pub follows : Follows history s
  pub completes : Completes history s
