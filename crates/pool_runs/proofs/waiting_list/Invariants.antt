use Rattle.pool_runs.proofs.waiting_list.Given as goal

abbrev pub decreases-loop-packet : goal.decreases-loop-packet
decreases-loop-packet l = l.waiting.count
