-- The words of the answers, passed on from one place. Declares nothing.
pub use Rattle.rr_hub.specs.Copies.{with_complete_response, with_complete_request}
pub use Rattle.rr_hub.specs.CoreLends.{refilled}
pub use Rattle.rr_laws.proofs.PortRuns.{port_run_keeps_answer_rule}
pub use Rattle.rr_ports.proofs.Unchanged.{facts_stay}
pub use Rattle.rr_ports.specs.Draining.{Drains, FoldsOne}
pub use Rattle.rr_ports.specs.Factories.{CreatesServerBy, CreatesClientBy}
unfoldable pub use Rattle.rr_ports.specs.Facts.{Keeps}
pub use Rattle.rr_ports.specs.Facts.{numbers_left, Asks, Has}
pub use Rattle.rr_ports.specs.Filling.{FillsResponse, FillsRequest}
pub use Rattle.rr_ports.specs.Loaning.{SendsResponseCopy, IsOneDefault, LoansResponseComplete, SendsCopy, LoansComplete, AreDefaults, SendsResponseSlice, SendsSlice}
pub use Rattle.rr_ports.specs.Responding.{Makes, RespondsSlice}
pub use Rattle.rr_ports.specs.Sending.{SendsPending}
pub use Rattle.rr_ports.specs.Shortcuts.{HearsCopy, ReceivesCopy, TellsCopy}
pub use Rattle.rr_ports.specs.Updates.{UpdatesResponse, UpdatesRequest}
pub use Rattle.rr_protocol.specs.Counts.{is_alive}
pub use Rattle.rr_protocol.specs.Loans.{LoansResponse, LoansRequest}
pub use Rattle.rr_protocol.specs.Messages.{with_hint, request_in, response_in}
pub use Rattle.rr_protocol.specs.Queries.{HasRequests, HasResponse, has_disconnect_hint}
pub use Rattle.rr_protocol.specs.Receives.{ReceivesRequest, ReceivesResponse}
pub use Rattle.rr_protocol.specs.Releases.{after_release}
pub use Rattle.rr_protocol.specs.Sends.{SendsResponse}
pub use Rattle.rr_protocol.specs.State.{empty_hub, pending_at, with_changed, active_at, handle_at, State}
pub use Rattle.rr_protocol.specs.Writing.{with_elements, after_init, with_request_content, with_response_content, with_element, filled, with_user_header}
pub use Rattle.rr_shared_ports.proofs.Exchanges.{over_after}
pub use Rattle.rr_shared_ports.proofs.Leading.{received_or_ended, request_received, stepped, server_made, response_sent, stepped_on, pending_sent, hinted, response_received, response_elements_sent, complete_response_loaned, response_loaned, released, request_copied, response_copied, answered_with, finished, elements_sent, complete_loaned, request_loaned, told, request_completed, response_completed, slice_responded, client_made}
pub use Rattle.rr_shared_ports.proofs.LeadingWrites.{requests_drained, responses_drained, response_updated, request_updated, response_tried, request_tried, response_slice_written, response_pushed, request_slice_written, request_pushed, response_alike, response_filled, request_alike, request_filled, initialised_or_not}
pub use Rattle.rr_shared_ports.proofs.Lengths.{asks_no_other}
pub use Rattle.rr_shared_ports.proofs.Readings.{history_read, read_runs}
pub use Rattle.rr_shared_ports.proofs.Telling.{at_state, answered, at, exhausted, is_received, at_made, is_made, is_spent, is_tried}
pub use Rattle.rr_shared_ports.proofs.Turns.{goes_on, makes_call, steps_from, ends_in_call, ends_in, history_grows}
pub use Rattle.rr_shared_ports.proofs.Waits.{ends_as, ends_as_other, one_value, received_or_none, send_refuses_over, refuses_over}
pub use Rattle.rr_shared_ports.specs.Calls.{Takes, IsReceived, ReceivesFree, Tells, IsTried, TriesFree, IsMade, MakesFree, TurnsFree, IsSpent, SpendsFree}
pub use Rattle.rr_shared_ports.specs.Exchanges.{AnswersWith, FindsOver, Finishes}
pub use Rattle.rr_shared_ports.specs.Leading.{IsHistory, Steps, calls_in}
pub use Rattle.rr_shared_ports.specs.Tries.{TriesResponse, TriesRequest, WritesSlice, Pushes, ResponseIsComplete, RequestIsComplete, Initialises}
pub use Rattle.rr_shared_ports.specs.Turns.{MakesCall, state_after, Answered, EndsInCall, EndsIn}
pub use Rattle.rr_shared_ports.specs.Waits.{EndsUnanswered, IsOver, ReceivesOrEnds}
pub use Rattle.std.proofs.Common.{⊎_elim, rules, Err, IfErr, Ok, ap, subst, append-nil, refl, [], sym, inl, None, Some, IsSomeAnd, length, nat_lt, IfSome, ℕ, List}
pub use Rattle.std.specs.Fn.{FnOnceReturnsAtMut, FnOnceReturnsAt}
pub use Rattle.std.specs.Prelude.{IfOk, IsTrue, Option, Result, option_and_then}
