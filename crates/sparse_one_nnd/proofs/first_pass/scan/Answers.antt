-- `scan` meets its contract: by the tests on the way.
use Rattle.sparse_one_nnd.proofs.Planning.{past_words, too_many}
use Rattle.sparse_one_nnd.proofs.first_pass.scan.Goals as goal

pub returns-then-not-enough : goal.returns-then-not-enough
returns-then-not-enough c = past_words _ _ c.if-not-enough.ensures

pub returns-then-n-gt-MOST_BITS : goal.returns-then-n-gt-MOST_BITS
returns-then-n-gt-MOST_BITS c = too_many _ _ c.if-not-enough.ensures c.if-n-gt-MOST_BITS.true
