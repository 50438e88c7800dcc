-- The words of the clauses, passed on from one place. Declares nothing.
pub use Rattle.rr_protocol.specs.AnswerRule.{KeepsAnswerRule}
pub use Rattle.rr_protocol.specs.PortRun.{PortEvent}
pub use Rattle.rr_hub.specs.Copies.{with_complete_request, with_complete_response}
pub use Rattle.rr_hub.specs.CoreLends.{refilled}
pub use Rattle.rr_ports.specs.Draining.{Drains, FoldsOne}
pub use Rattle.rr_ports.specs.Factories.{CreatesClientBy, CreatesServerBy}
pub use Rattle.rr_ports.specs.Facts.{Names, IsFree, Keeps, numbers_left, Asks, Has}
pub use Rattle.rr_ports.specs.Filling.{CallableInOrder, FillsRequest, FillsResponse}
pub use Rattle.rr_ports.specs.Loaning.{AreDefaults, LoansResponseComplete, SendsResponseSlice, LoansComplete, SendsSlice, IsOneDefault, SendsResponseCopy, SendsCopy}
pub use Rattle.rr_ports.specs.Responding.{Makes, MakesInOrder, RespondsSlice}
pub use Rattle.rr_ports.specs.Sending.{SendsPending}
pub use Rattle.rr_ports.specs.Shortcuts.{TellsCopy, HearsCopy, ReceivesCopy}
pub use Rattle.rr_ports.specs.Updates.{UpdatesRequest, UpdatesResponse}
pub use Rattle.rr_protocol.specs.Counts.{is_alive}
pub use Rattle.rr_protocol.specs.Loans.{LoansResponse, LoansRequest}
pub use Rattle.rr_protocol.specs.Messages.{with_hint, request_in, response_in}
pub use Rattle.rr_protocol.specs.Queries.{has_disconnect_hint, HasResponse, HasRequests}
pub use Rattle.rr_protocol.specs.Receives.{ReceivesResponse, ReceivesRequest}
pub use Rattle.rr_protocol.specs.Releases.{after_release}
pub use Rattle.rr_protocol.specs.Sends.{SendsResponse}
pub use Rattle.rr_protocol.specs.Settings.{client_defaults, server_defaults}
pub use Rattle.rr_protocol.specs.State.{active_at, empty_hub, pending_at, with_changed, handle_at}
pub use Rattle.rr_protocol.specs.Writing.{with_user_header, with_element, with_request_content, with_response_content, after_init, filled, with_elements}
pub use Rattle.rr_shared_ports.specs.Calls.{IsMade, IsReceived, IsSpent, IsTried, MakesFree, ReceivesFree, SpendsFree, TriesFree, TurnsFree, IsAnswer, CanTake, Takes, Tells}
pub use Rattle.rr_shared_ports.specs.Exchanges.{AnswersWith, FindsOver, Finishes, FinishesLast, IsWhyNone, Questions, Responds, Serves}
pub use Rattle.rr_shared_ports.specs.Leading.{IsHistory, Reads, calls_in}
pub use Rattle.rr_shared_ports.specs.Tries.{TriesRequest, TriesResponse, Pushes, RequestIsComplete, WritesSlice, ResponseIsComplete, Initialises}
pub use Rattle.rr_shared_ports.specs.Turns.{MakesCall, EndsIn, IsNoted, state_after, OpensHub, Answered, EndsInCall}
pub use Rattle.rr_shared_ports.specs.Waits.{EndsUnanswered, IsOver, ReceivesOrEnds, Waits, WaitsToSend}
