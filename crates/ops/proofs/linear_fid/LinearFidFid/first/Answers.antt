-- `first` of `LinearFid` meets its contract.
use mathlib.Core.Path.{◌≡◌}
use mathlib.Core.Bool.{true, false}
use lib.ListN.{get_or}
use Rattle.std.proofs.lemmas.Iterator.{first_from_Range}
use Rattle.meaning.specs.Bits.{bits_of}
use Rattle.meaning.specs.Plain.{side}
use Rattle.meaning.proofs.BitString.{length_marks}
use Rattle.ops.proofs.Scan.{first_one}
use borrow.Author.Rules.{rules}
use Rattle.ops.proofs.linear_fid.LinearFidFid.first.Goals as goal

pub returns : goal.returns
returns c =
    let a = c.args in
    let n = a.self.now.len in
    let l = side a.one (bits_of a.self.now.words.now n) in
    first_one l a.i n (length_marks a.one a.self.now.words.now n) c.find.result
    (first_from_Range _ _ _ _ (λ k. get_or l k false ≡ true) (λ k. get_or l k false ≡ false) c.find.ensures.ran (λ x q k. search rules) (λ x q k. search rules))
