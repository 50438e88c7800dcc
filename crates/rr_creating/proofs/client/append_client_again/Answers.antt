use Rattle.std.proofs.Common.{ap, subst, ◌∙◌}
use Rattle.rr_table.specs.TableView.{IsRenewed}
use Rattle.rr_store.specs.Parts.{Connected}
use Rattle.rr_store.specs.Views.{sender_of}
use Rattle.rr_creating.proofs.steps.Added.{client_again}
use Rattle.rr_creating.proofs.client.append_client_again.Goals as goal

pub returns-clause-ok : goal.returns-clause-ok
returns-clause-ok g c =
    client_again c.args.store.now c.args.slots c.args.receiver c.args.index c.insert_again.new.table c.left_sender-sender.result
    c.args.settings c.args.client.messages c.left_sender-sender.ensures (record { port = c.client_port-port.result; loans_made = 0 })
    (ap (λ (x : Connected _). record { connected = x; loans_made = 0 }) c.client_port-port.ensures) c.args.client.marks.items
    c.insert_again.new.self c.in_ok-insert_again.ensures.ok

pub returns-clause-table : goal.returns-clause-table
returns-clause-table g c =
    subst (λ n. IsRenewed (sender_of n c.args.store.now.clients.senders).row c.args.client.row_len c.args.store.now.table
    c.insert_again.new.table)
    (ap (λ (x : Connected _). x.sender) c.client_port-port.ensures ∙ c.left_sender-sender.ensures)
    c.in_ok-insert_again.ensures.renewed
