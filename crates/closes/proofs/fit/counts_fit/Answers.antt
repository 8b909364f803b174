-- `counts_fit` meets its contract. Assumes nothing.
use Rattle.std.proofs.Common.{◌≡◌, ◌&&◌, length}
use Rattle.closes.proofs.Rooms.{words_in, bytes_in, middles_in, larges_in, words_fit, bytes_fit, middles_fit, larges_fit, both_if, both_not, all_if, all_not}
use borrow.Author.Rules.{rules}
use Rattle.closes.proofs.fit.counts_fit.Goals as goal
use Rattle.closes.proofs.fit.counts_fit.Goals.{then-all_fit, else-all_fit, then-all_fit-2, else-all_fit-2, then-all_fit-3, else-all_fit-3}

pub returns-then-all_fit-4 : goal.returns-then-all_fit-4
returns-then-all_fit-4 c =
    let k = c.args.catalogue.now in
    let words : c.all_fit.result ≡ words_in k =
    words_fit k.counts (length k.words.now) c.all_fit.result c.map-words.result c.map-words.ensures.items.long
    (λ i h. (c.map-words.ensures.items.at i 0 0 h).2.met) c.all_fit.ensures.within in
    let bytes : c.if-all_fit.value ≡ (words_in k && bytes_in k) =
    elim c.if-all_fit.branch [
      | then-all_fit w ↦ search (both_if, bytes_fit, rules)
      | else-all_fit w ↦ search (both_not, rules)
    ] in
    let middles : c.if-all_fit-2.value ≡ (words_in k && bytes_in k && middles_in k) =
    elim c.if-all_fit-2.branch [
      | then-all_fit-2 w ↦ search (both_if, middles_fit, rules)
      | else-all_fit-2 w ↦ search (both_not, rules)
    ] in
    let larges : c.if-all_fit-3.value ≡ (words_in k && bytes_in k && middles_in k && larges_in k) =
    elim c.if-all_fit-3.branch [
      | then-all_fit-3 w ↦ search (both_if, larges_fit, rules)
      | else-all_fit-3 w ↦ search (both_not, rules)
    ] in
    all_if k c.if-all_fit-3.value larges c.if-all_fit-4.true

pub returns-else-all_fit-4 : goal.returns-else-all_fit-4
returns-else-all_fit-4 c =
    let k = c.args.catalogue.now in
    let words : c.all_fit.result ≡ words_in k =
    words_fit k.counts (length k.words.now) c.all_fit.result c.map-words.result c.map-words.ensures.items.long
    (λ i h. (c.map-words.ensures.items.at i 0 0 h).2.met) c.all_fit.ensures.within in
    let bytes : c.if-all_fit.value ≡ (words_in k && bytes_in k) =
    elim c.if-all_fit.branch [
      | then-all_fit w ↦ search (both_if, bytes_fit, rules)
      | else-all_fit w ↦ search (both_not, rules)
    ] in
    let middles : c.if-all_fit-2.value ≡ (words_in k && bytes_in k && middles_in k) =
    elim c.if-all_fit-2.branch [
      | then-all_fit-2 w ↦ search (both_if, middles_fit, rules)
      | else-all_fit-2 w ↦ search (both_not, rules)
    ] in
    let larges : c.if-all_fit-3.value ≡ (words_in k && bytes_in k && middles_in k && larges_in k) =
    elim c.if-all_fit-3.branch [
      | then-all_fit-3 w ↦ search (both_if, larges_fit, rules)
      | else-all_fit-3 w ↦ search (both_not, rules)
    ] in
    all_not k c.if-all_fit-3.value larges c.if-all_fit-4.false
