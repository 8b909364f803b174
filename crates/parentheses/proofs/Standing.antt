-- A string of n nodes in scratch: its layout, what tidying leaves, and the copy that the plan keeps of it.
use mathlib.Core.Path.{◌≡◌, refl, sym, ap, ap₂, ◌∙◌, subst}
use mathlib.Core.Bool.{Bool, true}
use mathlib.Core.List.{List, ◌++◌}
use mathlib.Core.Logic.{◌⊎◌, inl, inr}
use Prim.Native.Nat.{ℕ, ◌+◌, ◌-◌, ◌*◌, ◌≤◌, ◌<◌}
use native.Mathlib.Omega.{arith}
use lib.ListN.{length, get_or, take, drop, replicate, length-append, length-drop, length-replicate, get_or-append, get_or-eq_default, drop_of_length-le}
use lib.Seq.{paste, length-paste, ext_get_or, get_or-drop, get_or-take, get_or-append-add, length-take-le, drop_at}
use borrow.Author.Tests.{le-leb}
use Rattle.meaning.specs.Bits.{bits_of, value, pack, word_count}
use Rattle.meaning.specs.Growth.{one_root}
use Rattle.meaning.specs.List.{greatest}
use Rattle.meaning.proofs.If.{and_true}
use Rattle.meaning.proofs.Stored.{length_bits}
use Rattle.meaning.proofs.Pack.{pack_at}
use Rattle.pioneers.specs.Placed.{holding}
use Rattle.pioneers.specs.Scratch.{text_of, fits_in}
use Rattle.pioneers.specs.declared.flags.Layout.{Layout}
use Rattle.pioneers.proofs.Parts.{lt_or_ge, zeros_at, part_is, part_new, part_zero}
use Rattle.std.specs.Prelude.{Result}
use Rattle.std.specs.List.{copy_within}
use Rattle.refusal.specs.declared.Refusal.{Refusal}
use Rattle.parentheses.specs.Plans.{Standing, PlanIs}
use Rattle.parentheses.specs.Raises.{lay_of, string_in, Stands, Holds}
use Rattle.parentheses.specs.declared.plans.Plan.{Plan}
use Rattle.parentheses.proofs.Holds.{length_holding, text_held}
use Rattle.parentheses.proofs.Copied.{moved, paste_else, paste_there}

-- the parts fit scratch of at least 2n + 2 words if there is a family, and of less
pub layout_fits : (n k : ℕ) → n ≤ greatest → 32 ≤ n → n + 1 + 2 * word_count (2 * n + 2) ≤ k → fits_in (lay_of n) k ≡ true
unfolding fits_in
layout_fits n k a b c =
    and_true (le-leb (n + 1) (n + 1 + word_count (2 * n + 2)) (omega arith))
    (and_true (le-leb (n + 1 + word_count (2 * n + 2)) k (omega arith))
    (and_true (le-leb (n + 1 + word_count (2 * n + 2)) 33554432 (omega arith))
    (and_true (le-leb (2 * n + 2) (2 * (n + 1)) (omega arith))
    (and_true (le-leb (2 * n + 2) (64 * (n + 1 + word_count (2 * n + 2) - (n + 1))) (omega arith))
    (le-leb (2 * n + 2) (64 * (k - (n + 1 + word_count (2 * n + 2)))) (omega arith))))))

pub string_size : (scr : List ℕ) (n : ℕ) → length (string_in scr n) ≡ 2 * n + 2
unfolding string_in
string_size scr n = length_bits (drop (n + 1) scr) (2 * n + 2)

pub string_text : (scr : List ℕ) (n : ℕ) → string_in scr n ≡ text_of scr (lay_of n)
unfolding string_in text_of
string_text scr n = refl

-- the string of n nodes that scratch holds is a level
pub holds_standing : (scr : List ℕ) (n : ℕ) → Holds scr n → Standing scr (lay_of n)
holds_standing scr n h =
    record {
      holds = h.alone ∙ ap (holding (n + 1) (length scr)) (string_text scr n);
      root = ap one_root (sym (string_text scr n)) ∙ h.stands.root;
      few = omega (arith, h.stands.few);
      inside = omega (arith, h.stands.room);
      room = omega (arith, h.stands.room);
      fits = λ g. layout_fits n (length scr) h.stands.few (omega arith) (omega (arith, h.stands.room));
    }

-- ---- tidying

module _ (scr : List ℕ) (n : ℕ) (s : Stands scr n) where
  pub tidy_in : n + 1 ≤ length scr
  tidy_in = omega (arith, s.room)

  module _ (part : List ℕ)
      (p : part ≡ pack (length (take (length scr - (n + 1)) (drop (n + 1) scr))) (bits_of (take (length scr - (n + 1)) (drop (n + 1) scr)) (2 * n + 2))) where
    mid : List ℕ
    mid = take (n + 1) scr ++ (part ++ drop (length scr - (n + 1)) (drop (n + 1) scr))

    front : length (take (n + 1) scr) ≡ n + 1
    front = length-take-le (n + 1) scr tidy_in

    part_packed : part ≡ pack (length scr - (n + 1)) (string_in scr n)
    unfolding string_in
    part_packed =
        p ∙ ap (λ (x : List ℕ). pack (length x) (bits_of x (2 * n + 2))) (part_is scr (n + 1))
        ∙ ap (λ (k : ℕ). pack k (bits_of (drop (n + 1) scr) (2 * n + 2))) (length-drop (n + 1) scr)

    pub tidied_drop : drop (n + 1) (take (n + 1) scr ++ (part ++ drop (length scr - (n + 1)) (drop (n + 1) scr))) ≡ part
    tidied_drop = ap (drop (n + 1)) (part_new scr part (n + 1)) ∙ drop_at (take (n + 1) scr) part (n + 1) front

    pub tidied_front : length (take (n + 1) (take (n + 1) scr ++ (part ++ drop (length scr - (n + 1)) (drop (n + 1) scr)))) ≡ n + 1
    tidied_front =
        length-take-le (n + 1) (take (n + 1) scr ++ (part ++ drop (length scr - (n + 1)) (drop (n + 1) scr)))
        (omega (arith, length-append (take (n + 1) scr) (part ++ drop (length scr - (n + 1)) (drop (n + 1) scr)), front))

    pub tidied : (z : List ℕ) → z ≡ replicate (length (take (n + 1) (take (n + 1) scr ++ (part ++ drop (length scr - (n + 1)) (drop (n + 1) scr))))) 0
        → z ++ drop (n + 1) (take (n + 1) scr ++ (part ++ drop (length scr - (n + 1)) (drop (n + 1) scr))) ≡ holding (n + 1) (length scr) (string_in scr n)
    unfolding holding
    tidied z e =
        ap₂ (λ (x y : List ℕ). x ++ y) (e ∙ ap (λ (k : ℕ). replicate k 0) tidied_front) (tidied_drop ∙ part_packed)

-- what tidying leaves holds the same string
pub tidy_holds : (scr exit : List ℕ) (n : ℕ) → Stands scr n → exit ≡ holding (n + 1) (length scr) (string_in scr n)
    → Holds exit n × (string_in exit n ≡ string_in scr n) × (length exit ≡ length scr)
tidy_holds scr exit n s q =
    let size : length exit ≡ length scr = ap length q ∙ length_holding (n + 1) (length scr) (string_in scr n) (tidy_in scr n s) in
    let same : string_in exit n ≡ string_in scr n =
    ap (λ (x : List ℕ). string_in x n) q ∙ string_text (holding (n + 1) (length scr) (string_in scr n)) n
    ∙ text_held (lay_of n) (length scr) (string_in scr n) (tidy_in scr n s) (string_size scr n) (omega (arith, s.room)) in (
      record {
        stands = record { few = s.few; room = omega (arith, s.room, size); root = ap one_root same ∙ s.root };
        alone = q ∙ ap₂ (holding (n + 1)) (sym size) (sym same);
      },
      same,
      size,
    )

-- ---- words of scratch that holds a string

module _ (t k : ℕ) (l : List Bool) (h : t ≤ k) where
  hold_low : (x : ℕ) → x < t → get_or (holding t k l) x 0 ≡ 0
  unfolding holding
  hold_low x g = get_or-append (replicate t 0) (pack (k - t) l) 0 x (omega (arith, length-replicate {A = ℕ} t 0)) ∙ zeros_at t x

  hold_high : (x : ℕ) → x < k - t → get_or (holding t k l) (t + x) 0 ≡ value (take 64 (drop (64 * x) l))
  unfolding holding
  hold_high x g =
      ap (λ (y : ℕ). get_or (replicate t 0 ++ pack (k - t) l) (y + x) 0) (sym (length-replicate {A = ℕ} t 0))
      ∙ get_or-append-add (replicate t 0) (pack (k - t) l) x 0 ∙ pack_at (k - t) l x g

  hold_past : (x : ℕ) → t + word_count (length l) ≤ x → get_or (holding t k l) x 0 ≡ 0
  unfolding value
  hold_past x g = go (lt_or_ge x k)
    where
      go : (x < k) ⊎ (k ≤ x) → get_or (holding t k l) x 0 ≡ 0
      go (inl a) =
          let e : t + (x - t) ≡ x = omega arith in
          ap (λ (y : ℕ). get_or (holding t k l) y 0) (sym e) ∙ hold_high (x - t) (omega arith)
          ∙ ap (λ (b : List Bool). value (take 64 b)) (drop_of_length-le l {i = 64 * (x - t)} (omega arith))
      go (inr a) = get_or-eq_default (holding t k l) 0 {n = x} (omega (arith, length_holding t k l h))

-- ---- the plan's copy

module _ (scr : List ℕ) (n : ℕ) (h : Holds scr n) (big : 32 ≤ n) (lay : Layout) (le : lay ≡ lay_of n) (w : ℕ) (we : w ≡ word_count (2 * n + 2)) where
  abbrev l : List Bool
  l = string_in scr n

  size : length l ≡ 2 * n + 2
  size = string_size scr n

  text_at : lay.text ≡ n + 1
  text_at = ap (λ (x : Layout). x.text) le

  flags_at : lay.flags ≡ n + 1 + w
  flags_at = ap (λ (x : Layout). x.flags) le ∙ ap (λ (x : ℕ). n + 1 + x) (sym we)

  abbrev sp : ℕ
  sp = lay.flags + w

  room : sp + w ≤ length scr
  room = omega (arith, flags_at, h.stands.room, we)

  pub spare_fits : lay.flags + w < 4294967296
  spare_fits = omega (arith, flags_at, h.stands.few, we)

  pub copy_out : (lay.text + w ≤ length scr) × (sp + w ≤ length scr)
  copy_out = (omega (arith, room, flags_at, text_at), room)

  -- a word of the string that scratch holds
  word : (x : ℕ) → get_or scr x 0 ≡ get_or (holding (n + 1) (length scr) l) x 0
  word x = ap (λ (s : List ℕ). get_or s x 0) h.alone

  inside : n + 1 ≤ length scr
  inside = omega (arith, h.stands.room)

  past : (x : ℕ) → n + 1 + w ≤ x → get_or scr x 0 ≡ 0
  past x g = word x ∙ hold_past (n + 1) (length scr) l inside x (omega (arith, we, ap word_count size))

  low : (x : ℕ) → x < n + 1 → get_or scr x 0 ≡ 0
  low x g = word x ∙ hold_low (n + 1) (length scr) l inside x g

  source_long : w ≤ length (drop lay.text scr)
  source_long = omega (arith, length-drop lay.text scr, room, flags_at, text_at)

  module _ (one : List ℕ) (copied : one ≡ copy_within scr lay.text (lay.text + w) sp) where
    q : one ≡ paste scr sp (drop lay.text scr) w
    q = copied ∙ moved scr lay.text w sp

    one_length : length one ≡ length scr
    one_length = ap length q ∙ length-paste scr sp (drop lay.text scr) w room source_long

    pub spare_in : lay.flags + w ≤ length one
    spare_in = omega (arith, one_length, room)

    one_else : (x : ℕ) → x < sp → get_or one x 0 ≡ get_or scr x 0
    one_else x g = ap (λ (s : List ℕ). get_or s x 0) q ∙ paste_else scr sp (drop lay.text scr) w x room source_long (inl g)

    one_copy : (x : ℕ) → x < w → get_or one (sp + x) 0 ≡ get_or scr (n + 1 + x) 0
    one_copy x g =
        ap (λ (s : List ℕ). get_or s (sp + x) 0) q ∙ paste_there scr sp (drop lay.text scr) w x room source_long g ∙ get_or-drop lay.text scr x 0
        ∙ ap (λ (y : ℕ). get_or scr (y + x) 0) text_at

    front_length : length (take sp one) ≡ sp
    front_length = length-take-le sp one spare_in

    front_is : take sp one ≡ holding (n + 1) sp l
    front_is =
        ext_get_or 0 (take sp one) (holding (n + 1) sp l) (front_length ∙ sym (length_holding (n + 1) sp l (omega (arith, flags_at))))
        (λ x g.
        let i : x < sp = omega (arith, front_length) in
        get_or-take sp one x 0 i ∙ one_else x i ∙ word x ∙ same x i (lt_or_ge x (n + 1)))
      where
        same : (x : ℕ) → x < sp → (x < n + 1) ⊎ (n + 1 ≤ x) → get_or (holding (n + 1) (length scr) l) x 0 ≡ get_or (holding (n + 1) sp l) x 0
        same x i (inl g) = hold_low (n + 1) (length scr) l inside x g ∙ sym (hold_low (n + 1) sp l (omega (arith, flags_at)) x g)
        same x i (inr g) =
            let e : n + 1 + (x - (n + 1)) ≡ x = omega arith in
            subst (λ (y : ℕ). get_or (holding (n + 1) (length scr) l) y 0 ≡ get_or (holding (n + 1) sp l) y 0) e
            (hold_high (n + 1) (length scr) l inside (x - (n + 1)) (omega (arith, room)) ∙ sym (hold_high (n + 1) sp l (omega (arith, flags_at)) (x - (n + 1)) (omega (arith, flags_at))))

    front_text : text_of (take sp one) lay ≡ l
    front_text =
        ap₂ text_of front_is le
        ∙ text_held (lay_of n) sp l (omega (arith, flags_at)) size (omega (arith, flags_at, we))

    pub front_size : length (take (lay.flags + w) one) ≡ lay.flags + w
    front_size = front_length

    pub front_standing : Standing (take (lay.flags + w) one) lay × (4 ≤ 4) × (4 + 1 ≤ 5)
    front_standing = (
      record {
        holds = front_is ∙ ap₂ (λ (k : ℕ) (b : List Bool). holding (n + 1) k b) (sym front_length) (sym front_text) ∙ ap (λ (t : ℕ). holding t (length (take sp one)) (text_of (take sp one) lay)) (sym text_at);
        root = ap one_root front_text ∙ h.stands.root;
        few = omega (arith, ap (λ (x : Layout). x.bits) le, h.stands.few);
        inside = omega (arith, front_length, flags_at, text_at);
        room = omega (arith, ap (λ (x : Layout). x.bits) le, front_length, flags_at, text_at, we);
        fits = λ g. ap₂ fits_in le front_length ∙ layout_fits n sp h.stands.few big (omega (arith, flags_at, we));
      },
      omega arith,
      omega arith,
    )

    pub front_plan : (r : Result Plan Refusal) → PlanIs r 4 1 (text_of (take (lay.flags + w) one) lay) → PlanIs r 4 1 l
    front_plan r p = subst (PlanIs r 4 1) front_text p

    module _ (z : List ℕ) (e : z ≡ replicate (length (take (lay.flags + w) one)) 0) where
      two : List ℕ
      two = z ++ drop (lay.flags + w) one

      z_length : length z ≡ sp
      z_length = ap length e ∙ length-replicate (length (take sp one)) 0 ∙ front_length

      two_length : length (z ++ drop (lay.flags + w) one) ≡ length scr
      two_length = length-append z (drop sp one) ∙ omega (arith, z_length, length-drop sp one, one_length, room)

      two_low : (x : ℕ) → x < sp → get_or (z ++ drop (lay.flags + w) one) x 0 ≡ 0
      two_low x g = get_or-append z (drop sp one) 0 x (omega (arith, z_length)) ∙ ap (λ (s : List ℕ). get_or s x 0) e ∙ zeros_at (length (take sp one)) x

      two_high : (x : ℕ) → get_or (z ++ drop (lay.flags + w) one) (sp + x) 0 ≡ get_or one (sp + x) 0
      two_high x = ap (λ (y : ℕ). get_or (z ++ drop sp one) (y + x) 0) (sym z_length) ∙ get_or-append-add z (drop sp one) x 0 ∙ get_or-drop sp one x 0

      pub copy_in : (lay.flags + w + w ≤ length (z ++ drop (lay.flags + w) one)) × (lay.text + w ≤ length (z ++ drop (lay.flags + w) one))
      copy_in = (omega (arith, two_length, room), omega (arith, two_length, room, flags_at, text_at))

      module _ (three : List ℕ) (again : three ≡ copy_within (z ++ drop (lay.flags + w) one) (lay.flags + w) (lay.flags + w + w) lay.text) where
        p : three ≡ paste (z ++ drop (lay.flags + w) one) lay.text (drop (lay.flags + w) (z ++ drop (lay.flags + w) one)) w
        p = again ∙ moved (z ++ drop (lay.flags + w) one) (lay.flags + w) w lay.text

        from_long : w ≤ length (drop (lay.flags + w) (z ++ drop (lay.flags + w) one))
        from_long = omega (arith, length-drop sp (z ++ drop sp one), two_length, room)

        to_fits : lay.text + w ≤ length (z ++ drop (lay.flags + w) one)
        to_fits = omega (arith, two_length, room, flags_at, text_at)

        three_length : length three ≡ length scr
        three_length = ap length p ∙ length-paste (z ++ drop sp one) lay.text (drop sp (z ++ drop sp one)) w to_fits from_long ∙ two_length

        pub three_in : lay.flags + w ≤ length three
        three_in = omega (arith, three_length, room)

        three_else : (x : ℕ) → (x < lay.text) ⊎ (lay.text + w ≤ x) → get_or three x 0 ≡ get_or (z ++ drop (lay.flags + w) one) x 0
        three_else x g = ap (λ (s : List ℕ). get_or s x 0) p ∙ paste_else (z ++ drop sp one) lay.text (drop sp (z ++ drop sp one)) w x to_fits from_long g

        three_copy : (x : ℕ) → x < w → get_or three (n + 1 + x) 0 ≡ get_or scr (n + 1 + x) 0
        three_copy x g =
            ap (λ (y : ℕ). get_or three (y + x) 0) (sym text_at) ∙ ap (λ (s : List ℕ). get_or s (lay.text + x) 0) p
            ∙ paste_there (z ++ drop sp one) lay.text (drop sp (z ++ drop sp one)) w x to_fits from_long g ∙ get_or-drop sp (z ++ drop sp one) x 0 ∙ two_high x ∙ one_copy x g

        pub back : (y : List ℕ) → y ≡ replicate (length (take (length three - (lay.flags + w)) (drop (lay.flags + w) three))) 0
            → take (lay.flags + w) three ++ (y ++ drop (length three - (lay.flags + w)) (drop (lay.flags + w) three)) ≡ scr
        back y u =
            part_zero three y sp u
            ∙ ext_get_or 0 (take sp three ++ replicate (length three - sp) 0) scr whole (λ x g. word_is x (lt_or_ge x sp))
          where
            cut : length (take sp three) ≡ sp
            cut = length-take-le sp three three_in

            whole : length (take sp three ++ replicate (length three - sp) 0) ≡ length scr
            whole = length-append (take sp three) (replicate (length three - sp) 0) ∙ omega (arith, cut, length-replicate {A = ℕ} (length three - sp) 0, three_length, room)

            in_front : (x : ℕ) → x < sp → (x < n + 1) ⊎ (n + 1 ≤ x) → (x < n + 1 + w) ⊎ (n + 1 + w ≤ x) → get_or three x 0 ≡ get_or scr x 0
            in_front x i (inl a) b = three_else x (inl (omega (arith, text_at))) ∙ two_low x i ∙ sym (low x a)
            in_front x i (inr a) (inl b) =
                let j : n + 1 + (x - (n + 1)) ≡ x = omega arith in
                subst (λ (v : ℕ). get_or three v 0 ≡ get_or scr v 0) j (three_copy (x - (n + 1)) (omega arith))
            in_front x i (inr a) (inr b) = three_else x (inr (omega (arith, text_at))) ∙ two_low x i ∙ sym (past x b)

            word_is : (x : ℕ) → (x < sp) ⊎ (sp ≤ x) → get_or (take sp three ++ replicate (length three - sp) 0) x 0 ≡ get_or scr x 0
            word_is x (inl i) =
                get_or-append (take sp three) (replicate (length three - sp) 0) 0 x (omega (arith, cut)) ∙ get_or-take sp three x 0 i
                ∙ in_front x i (lt_or_ge x (n + 1)) (lt_or_ge x (n + 1 + w))
            word_is x (inr i) =
                let j : x ≡ length (take sp three) + (x - sp) = omega (arith, cut) in
                ap (λ (v : ℕ). get_or (take sp three ++ replicate (length three - sp) 0) v 0) j
                ∙ get_or-append-add (take sp three) (replicate (length three - sp) 0) (x - sp) 0 ∙ zeros_at (length three - sp) (x - sp)
                ∙ sym (past x (omega (arith, flags_at)))
