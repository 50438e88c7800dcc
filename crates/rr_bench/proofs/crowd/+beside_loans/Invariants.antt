use Rattle.rr_bench.proofs.crowd.+beside_loans.Given as goal

abbrev pub decreases-beside_loans : goal.decreases-beside_loans
decreases-beside_loans g l = l.left
