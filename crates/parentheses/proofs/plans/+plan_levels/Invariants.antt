-- `plan_levels`: `left` falls at each call; each way out by its law.
use Rattle.parentheses.proofs.plans.+plan_levels.Given as goal

abbrev pub decreases-plan_levels : goal.decreases-plan_levels
decreases-plan_levels l = l.left
