use Rattle.rr_bench.proofs.crowd.+beside_clients.Given as goal

abbrev pub decreases-beside_clients : goal.decreases-beside_clients
decreases-beside_clients g l = l.left
