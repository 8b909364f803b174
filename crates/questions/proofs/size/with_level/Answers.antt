-- `with_level` meets its contract. Assumes nothing.
use Rattle.std.proofs.Common.{arith}
use Rattle.questions.proofs.Sums.{too_much, same_sum, own_size}
use Rattle.questions.proofs.size.with_level.Goals as goal

pub returns-in_err-words : goal.returns-in_err-words
returns-in_err-words c =
    let own = own_size c.args.counts.now c.args.level c.word_count.result c.word_count.ensures in
    too_much _ _ _ c.from_residual.ensures c.in_err-words.ensures (omega arith)

pub returns-in_err-bytes : goal.returns-in_err-bytes
returns-in_err-bytes c =
    let own = own_size c.args.counts.now c.args.level c.word_count.result c.word_count.ensures in
    too_much _ _ _ c.from_residual-in_err-bytes.ensures c.in_err-bytes.ensures (omega (arith, c.in_ok-words.ensures))

pub returns-in_err-middles : goal.returns-in_err-middles
returns-in_err-middles c =
    let own = own_size c.args.counts.now c.args.level c.word_count.result c.word_count.ensures in
    too_much _ _ _ c.from_residual-in_err-middles.ensures c.in_err-middles.ensures (omega (arith, c.in_ok-words.ensures, c.in_ok-bytes.ensures))

pub returns : goal.returns
returns c =
    let own = own_size c.args.counts.now c.args.level c.word_count.result c.word_count.ensures in
    same_sum _ _ _ c.with-4.ensures (omega (arith, c.in_ok-words.ensures, c.in_ok-bytes.ensures, c.in_ok-middles.ensures))
