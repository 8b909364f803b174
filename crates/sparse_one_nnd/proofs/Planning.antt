-- The first pass: what the loop knows at block b.
use mathlib.Core.Path.{◌≡◌, refl, sym, ap, ap₂, ◌∙◌}
use mathlib.Core.Bool.{Bool, true, false}
use mathlib.Core.Option.{none, some}
use mathlib.Core.List.{List}
use Prim.Native.Nat.{ℕ, zero, suc, ◌+◌, ◌*◌, ◌-◌, ◌/◌, ◌≤◌, ◌<◌}
use native.Mathlib.Nat.{not-suc-le-zero}
use native.Mathlib.Numerals.{add-one}
use native.Mathlib.Omega.{arith}
use lib.ListN.{length, take, drop, length-take}
use lib.Seq.{take_all}
use borrow.Author.Tests.{eq-eqb, ne_eqb, leb-true, leb-false}
use lib.Dec.{leb}
use Rattle.meaning.specs.Bits.{opens, bits_of}
use Rattle.meaning.specs.Dictionary.{block_count, end_of}
use Rattle.meaning.specs.Direct.{most_bits}
use Rattle.meaning.specs.Refusals.{full_block}
use Rattle.meaning.proofs.If.{if_true, if_false}
use Rattle.meaning.proofs.Stored.{length_bits}
use Rattle.meaning.proofs.Direct.{direct_broken, direct_many}
use Rattle.meaning.proofs.Planned.{plan_broken, plan_many, plan_at_full, refused_full}
use Rattle.refusal.specs.declared.Refusal.TheVariants.{Many, Full, Broken}
use Rattle.sparse_one_nnd.specs.Blocks.{last_of, Held, Counted, Unplanned}
use Rattle.sparse_one_nnd.proofs.Blocks.{next_drop, next_count, next_ones, opens_le}

-- one block of the plan
full_here : (k b : ℕ) (l : List Bool) → 0 < k → opens (take 256 l) ≡ 256 → full_block k b l ≡ some b
unfolding full_block
full_here zero b l h e = absurd (not-suc-le-zero h)
full_here (suc k) b l h e = if_true _ _ (eq-eqb (opens (take 256 l)) 256 e)

full_not : (k b : ℕ) (l : List Bool) → 0 < k → (opens (take 256 l) ≡ 256 → ⊥) → full_block k b l ≡ full_block (k - 1) (b + 1) (drop 256 l)
unfolding full_block
full_not zero b l h e = absurd (not-suc-le-zero h)
full_not (suc k) b l h e =
    let u : k ≡ suc k - 1 = omega arith in
    if_false _ _ (ne_eqb (opens (take 256 l)) 256 e) ∙ ap₂ (λ (j c : ℕ). full_block j c (drop 256 l)) u (sym (add-one b))

full_end : (k b : ℕ) (l : List Bool) → k ≤ 0 → full_block k b l ≡ none
unfolding full_block
full_end zero b l h = refl
full_end (suc k) b l h = absurd (not-suc-le-zero h)

pub record Planning (ws : List ℕ) (n blocks ones b : ℕ) : Type 0 where
  pub within : b ≤ n / 256 + 1
  pub same : full_block (n / 256 + 1 - b) b (drop (256 * b) (bits_of ws n)) ≡ full_block (n / 256 + 1) 0 (bits_of ws n)
  pub count : blocks ≡ block_count (take (256 * b) (bits_of ws n))
  pub total : ones ≡ opens (take (256 * b) (bits_of ws n))

pub plan_start : (ws : List ℕ) (n : ℕ) → Planning ws n 0 0 0
unfolding block_count end_of opens
plan_start ws n =
    record {
      within = omega arith;
      same = let u : n / 256 + 1 - 0 ≡ n / 256 + 1 = omega arith in ap (λ (k : ℕ). full_block k 0 (bits_of ws n)) u;
      count = refl;
      total = refl;
    }

module _ {ws : List ℕ} {n blocks ones b : ℕ} (p : Planning ws n blocks ones b) where
  abbrev l : List Bool
  l = bits_of ws n

  pub plan_few : ones ≤ n
  plan_few = omega (arith, p.total, opens_le (take (256 * b) l), length-take (256 * b) l, length_bits ws n)

  module _ (c : ℕ) (e : c ≡ opens (take 256 (drop (256 * b) (bits_of ws n)))) (h : b < n / 256 + 1) where
    pub plan_ones : c ≤ 256
    plan_ones = omega (arith, e, opens_le (take 256 (drop (256 * b) l)), length-take 256 (drop (256 * b) l))

    pub plan_full : Held ws n → c ≡ 256 → Unplanned ws n (Full 0 b)
    plan_full t f =
        let q : full_block (n / 256 + 1) 0 (bits_of ws n) ≡ some b = sym p.same ∙ full_here (n / 256 + 1 - b) b (drop (256 * b) l) (omega arith) (sym e ∙ f) in
        record {
          plan = plan_at_full ws n t.inside t.few b q;
          write = λ rooms. refused_full ws n rooms b (record { inside = t.inside; few = t.few; full = q });
        }

    pub plan_on : (k : ℕ) → (c ≡ 256 → ⊥) → k ≡ last_of c b blocks → Planning ws n k (ones + c) (b + 1)
    plan_on k f w =
        let u : n / 256 + 1 - b - 1 ≡ n / 256 + 1 - (b + 1) = omega arith in
        record {
          within = omega arith;
          same =
              sym (full_not (n / 256 + 1 - b) b (drop (256 * b) l) (omega arith) (λ z. f (e ∙ z))
              ∙ ap₂ (λ (j : ℕ) (t : List Bool). full_block j (b + 1) t) u (next_drop l b))
              ∙ p.same;
          count = w ∙ ap (last_of c b) p.count ∙ sym (next_count l b c (omega (arith, length_bits ws n)) e);
          total = omega (arith, p.total, e, next_ones l b);
        }

  pub plan_end : Held ws n → n / 256 + 1 ≤ b → Counted ws n blocks ones
  plan_end t h =
      let a : take (256 * b) l ≡ l = take_all (256 * b) l (omega (arith, length_bits ws n)) in
      record {
        held = t;
        narrow = sym p.same ∙ full_end (n / 256 + 1 - b) b (drop (256 * b) l) (omega arith);
        count = p.count ∙ ap block_count a;
        total = p.total ∙ ap opens a;
      }

-- the tests before it
module _ (ws : List ℕ) (n : ℕ) where
  pub past_words : false ≡ leb n (64 * length ws) → Unplanned ws n Broken
  past_words f =
      let h = leb-false n (64 * length ws) (sym f) in
      record { plan = plan_broken ws n h; write = λ rooms. direct_broken ws n rooms h }

  module _ (f : true ≡ leb n (64 * length ws)) where
    inside : n ≤ 64 * length ws
    inside = leb-true n (64 * length ws) (sym f)

    pub in_words : n ≤ most_bits → Held ws n
    in_words h = record { inside = inside; few = h }

    pub too_many : most_bits < n → Unplanned ws n (Many n)
    too_many h = record { plan = plan_many ws n inside h; write = λ rooms. direct_many ws n rooms inside h }
