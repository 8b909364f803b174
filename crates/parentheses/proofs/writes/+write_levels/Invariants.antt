-- `write_levels`: `left` falls at each call; each way out by its law.
use Rattle.parentheses.proofs.writes.+write_levels.Given as goal

abbrev pub decreases-write_levels : goal.decreases-write_levels
decreases-write_levels l = l.left
