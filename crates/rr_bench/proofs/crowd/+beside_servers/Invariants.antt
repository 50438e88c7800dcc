use Rattle.rr_bench.proofs.crowd.+beside_servers.Given as goal

abbrev pub decreases-beside_servers : goal.decreases-beside_servers
decreases-beside_servers g l = l.left
