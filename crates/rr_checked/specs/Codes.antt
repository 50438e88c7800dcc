-- The codes of refusals.
use Rattle.std.specs.Prelude.{ℕ}
use Rattle.rr_protocol.specs.declared.error.ClientCreateError.{ClientCreateError}
use Rattle.rr_protocol.specs.declared.error.ClientCreateError.TheVariants as client
use Rattle.rr_protocol.specs.declared.error.LoanError.{LoanError}
use Rattle.rr_protocol.specs.declared.error.LoanError.TheVariants as loan
use Rattle.rr_protocol.specs.declared.error.ReceiveError.{ReceiveError}
use Rattle.rr_protocol.specs.declared.error.ReceiveError.TheVariants as receive
use Rattle.rr_protocol.specs.declared.error.RequestSendError.{RequestSendError}
use Rattle.rr_protocol.specs.declared.error.RequestSendError.TheVariants as request
use Rattle.rr_protocol.specs.declared.error.SendError.{SendError}
use Rattle.rr_protocol.specs.declared.error.SendError.TheVariants as send
use Rattle.rr_protocol.specs.declared.error.ServerCreateError.{ServerCreateError}
use Rattle.rr_protocol.specs.declared.error.ServerCreateError.TheVariants as server
use Rattle.rr_checked.specs.declared.refusal.Refusal.{Refusal}
use Rattle.rr_checked.specs.declared.refusal.Refusal.TheVariants as refusal

abbrev pub client_code : ClientCreateError → ℕ
client_code client.UnableToCreateDataSegment = 10
client_code client.ExceedsMaxSupportedClients = 11
client_code client.FailedToDeployThreadsafetyPolicy = 12
client_code client.UnableToCreatePortTag = 13

abbrev pub server_code : ServerCreateError → ℕ
server_code server.ExceedsMaxSupportedServers = 20
server_code server.UnableToCreateDataSegment = 21
server_code server.FailedToDeployThreadsafetyPolicy = 22
server_code server.UnableToCreatePortTag = 23

abbrev pub loan_code : LoanError → ℕ
loan_code loan.OutOfMemory = 30
loan_code loan.ExceedsMaxLoans = 31
loan_code loan.ExceedsMaxLoanSize = 32

abbrev pub send_code : SendError → ℕ
send_code (send.LoanError error) = loan_code error
send_code (send.ConnectionError error) = 40
send_code send.UnableToDeliver = 41

abbrev pub request_code : RequestSendError → ℕ
request_code request.ExceedsMaxActiveRequests = 42
request_code (request.SendError error) = send_code error

abbrev pub receive_code : ReceiveError → ℕ
receive_code receive.ExceedsMaxBorrows = 50
receive_code (receive.ConnectionFailure error) = 51

-- the code of a refusal; 0 is none's
abbrev pub code : Refusal → ℕ
code refusal.Unknown = 1
code refusal.WrongKind = 2
code refusal.NumbersExhausted = 3
code refusal.Incomplete = 4
code (refusal.Client error) = client_code error
code (refusal.Server error) = server_code error
code (refusal.Loan error) = loan_code error
code (refusal.Request error) = request_code error
code (refusal.Send error) = send_code error
code (refusal.Receive error) = receive_code error
