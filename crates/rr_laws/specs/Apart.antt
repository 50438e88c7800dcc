-- Why the requests and the responses of a reached state are distinct.
use Rattle.std.specs.Prelude.{◌≡◌, ℕ, ◌<◌, ◌≤◌, ◌==◌, Some, None, count_by}
use Rattle.std.specs.FinMap as fin_map
use Rattle.rr_protocol.specs.Lists.{Lists, at}
use Rattle.rr_protocol.specs.Keys.{ResponseKey, response_key_cmp}
use Rattle.rr_protocol.specs.Messages.{ResponseMessage}
use Rattle.rr_protocol.specs.State.{State}
use Rattle.rr_laws.specs.Roles.{Answer, LoanedResponse, Question, ReceivedRequest, Roles, roles_of, asking_at}

-- of the requests that a client has on loan or that wait for answers, no two are on one channel
abbrev pub ChannelsApart : Roles → Type 0
ChannelsApart roles =
    (n k : ℕ) (q p : Question) → asking_at roles n ≡ Some q → asking_at roles k ≡ Some p → q.client ≡ p.client
    → q.channel ≡ p.channel → n ≡ k

-- a response on loan is of the server that has its active request
abbrev pub LoansKeepServers : Roles → Type 0
LoansKeepServers roles =
    (n m server : ℕ) (q : Question) (a : Answer) → fin_map.get roles n ≡ Some (ReceivedRequest server q)
    → fin_map.get roles m ≡ Some (LoanedResponse a)
    → a.active_request ≡ n → a.server ≡ server

module _ {T H : Type 0} where
  -- how many entries of a list have this number
  abbrev pub standing : Lists response_key_cmp (ResponseMessage T H) → ℕ → ResponseKey → ℕ
  standing lists number key = count_by (λ m. m.number == number) (at lists key)

-- a response is in one list, once, and then in no handle
pub record ResponsesApart {T H : Type 0} (roles : Roles) (lists : Lists response_key_cmp (ResponseMessage T H)) : Type
    0 where
  pub once : (number : ℕ) (key : ResponseKey) → standing lists number key ≤ 1
  pub one_list : (number : ℕ) (key other : ResponseKey) → 0 < standing lists number key
      → 0 < standing lists number other → key ≡ other
  pub no_handle : (number : ℕ) (key : ResponseKey) → 0 < standing lists number key → fin_map.get roles number ≡ None

-- both, of the handles and the lists of responses
pub record AreApart {T H : Type 0} (roles : Roles) (lists : Lists response_key_cmp (ResponseMessage T H)) : Type 0
  where
    pub channels : ChannelsApart roles
    pub responses : ResponsesApart roles lists

-- both, in a state
abbrev pub IsApart : {Q QH P PH K : Type 0} → State Q QH P PH K → Type 0
IsApart s = AreApart (roles_of s.handles) s.responses
