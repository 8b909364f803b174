-- What the record says of a tree tells the record, and an answer that comes with counts tells both.
use mathlib.Core.Path.{◌≡◌, sym, ap, ◌∙◌}
use mathlib.Core.List.{List}
use Prim.Native.Nat.{ℕ}
use native.Mathlib.Nat.{zero-add}
use native.Mathlib.Omega.{arith}
use lib.ListN.{length, get_or}
use lib.Seq.{ext_get_or}
use Rattle.meaning.specs.Bits.{tab}
use Rattle.std.specs.Prelude.{Result, Ok, Err}
use Rattle.meaning.specs.Areas as areas
use Rattle.meaning.specs.Build.{Tree}
use Rattle.meaning.proofs.Tab.{length_tab, get_d_tab}
use Rattle.refusal.specs.Said.{refusal_of}
use Rattle.refusal.specs.declared.Refusal.{Refusal}
use Rattle.refusal.proofs.Agree.{same_refusal}
use Rattle.record.specs.Record.{tree_in, Sized, SizedIn, said_tree}
use Rattle.record.specs.declared.Counts.{Counts}

-- a list of n numbers, by its places
listed : (l : List ℕ) (n : ℕ) → length l ≡ n → tab (λ k. get_or l k 0) 0 n ≡ l
listed l n e =
    ext_get_or 0 (tab (λ k. get_or l k 0) 0 n) l (length_tab (λ k. get_or l k 0) 0 n ∙ sym e)
    (λ i h. get_d_tab (λ k. get_or l k 0) 0 n i 0 (omega (arith, h, length_tab (λ k. get_or l k 0) 0 n)) ∙ ap (λ k. get_or l k 0) (zero-add i))

-- level k of a tree, and the record told again
level : Tree → ℕ → areas.Counts
level t k = get_or t.counts k areas.no_counts

again : Tree → Counts
again t =
    record {
      nodes = t.nodes;
      bits = tab (λ k. (level t k).bits) 0 5;
      bytes = tab (λ k. (level t k).bytes) 0 4;
      middles = tab (λ k. (level t k).middle) 0 4;
      larges = tab (λ k. (level t k).large) 0 4;
    }

back : (c : Counts) → Sized c → again (tree_in c) ≡ c
unfolding again level tree_in tab
back c s = λ i.
    record {
      nodes = c.nodes;
      bits = listed c.bits 5 s.bits i;
      bytes = listed c.bytes 4 s.bytes i;
      middles = listed c.middles 4 s.middles i;
      larges = listed c.larges 4 s.larges i;
    }

pub counts_agree : (c d : Counts) → Sized c → Sized d → tree_in c ≡ tree_in d → c ≡ d
counts_agree c d s t e = sym (back c s) ∙ ap again e ∙ back d t

-- an answer that comes with counts tells them
pub replies_agree : (r q : Result Counts Refusal) → SizedIn r → SizedIn q → said_tree r ≡ said_tree q → r ≡ q
replies_agree (Ok c) (Ok d) s t e = let p : tree_in c ≡ tree_in d = cc in ap Ok (counts_agree c d s t p)
replies_agree (Ok c) (Err q) s t e = absurd cc
replies_agree (Err r) (Ok d) s t e = absurd cc
replies_agree (Err r) (Err q) s t e = let p : refusal_of r ≡ refusal_of q = cc in ap Err (same_refusal r q p)
