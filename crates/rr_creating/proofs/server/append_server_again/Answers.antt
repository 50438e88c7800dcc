use Rattle.std.proofs.Common.{ap, subst, ◌∙◌}
use Rattle.rr_table.specs.TableView.{IsRenewed}
use Rattle.rr_store.specs.Parts.{ServerPart}
use Rattle.rr_store.specs.Views.{sender_of}
use Rattle.rr_creating.proofs.steps.Added.{server_again}
use Rattle.rr_creating.proofs.server.append_server_again.Goals as goal

pub returns-clause-ok : goal.returns-clause-ok
returns-clause-ok g c =
    server_again c.args.store.now c.args.slots c.args.receiver c.args.index c.insert_again.new.table c.left_sender-sender.result
    c.args.settings c.args.loans c.args.messages c.left_sender-sender.ensures c.server_of-server.result c.server_of-server.ensures
    c.new.result.items c.new.ensures.items c.insert_again.new.self c.in_ok-insert_again.ensures.ok

pub returns-clause-table : goal.returns-clause-table
returns-clause-table g c =
    subst (λ n. IsRenewed (sender_of n c.args.store.now.servers.senders).row c.args.slots c.args.store.now.table c.insert_again.new.table)
    (ap (λ (x : ServerPart _). x.sender) c.server_of-server.ensures ∙ c.left_sender-sender.ensures)
    c.in_ok-insert_again.ensures.renewed
