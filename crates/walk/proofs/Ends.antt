-- After the walk: scratch made zeros, and the lists too if it is refused.
use mathlib.Core.Path.{◌≡◌, sym, ap, ◌∙◌, refl}
use mathlib.Core.Bool.{true, false}
use mathlib.Core.List.{List}
use Prim.Native.Nat.{ℕ}
use lib.ListN.{length, replicate, length-replicate}
use Rattle.meaning.specs.Build.{Tree, Lent}
use Rattle.meaning.specs.Walking as walk
use Rattle.meaning.specs.Walking.{unwalked, walking}
use Rattle.std.specs.Prelude.{Result, Ok, Err, is_err}
use Rattle.refusal.specs.declared.Refusal.{Refusal}
use Rattle.refusal.specs.Said.{said_number}
use Rattle.walk.specs.Said.{walked, rooms_at}
use Rattle.walk.specs.Told.{Cleared, Zeros, ended}

pub zeros : (vs bs vs' bs' : List ℕ) → Cleared vs bs vs' bs' → Zeros vs' bs'
zeros vs bs vs' bs' k = record { levels = long vs vs' k.levels; labels = long bs bs' k.labels }
  where
    long : (l l' : List ℕ) → l' ≡ replicate (length l) 0 → l' ≡ replicate (length l') 0
    long l l' e = e ∙ ap (λ n. replicate n 0) (sym (ap length e ∙ length-replicate (length l) 0))

-- the lists vs and bs, cleared, became vs₁ and bs₁, and the walk left vs₂ and bs₂ there and s₂ in scratch, which became s₃
module _ (t : Tree) (a : Lent) (vs bs s vs₁ bs₁ vs₂ bs₂ s₂ s₃ : List ℕ) (r : Result ℕ Refusal) (k : Cleared vs bs vs₁ bs₁)
    (e : ended (said_number r) vs₂ bs₂ s₂ ≡ walking t a (rooms_at vs₁ bs₁ s)) (z : s₃ ≡ replicate (length s₂) 0) where
  rooms : rooms_at vs₁ bs₁ s ≡ rooms_at vs bs s
  rooms =
      let u : length vs₁ ≡ length vs = ap length k.levels ∙ length-replicate (length vs) 0 in
      let v : length bs₁ ≡ length bs = ap length k.labels ∙ length-replicate (length bs) 0 in
      cc

  ends : (x : walk.Walked) → x ≡ ended (said_number r) vs₂ bs₂ s₂ → x ≡ walking t a (rooms_at vs bs s)
  ends x f = f ∙ e ∙ ap (walking t a) rooms

  -- met, or refused
  pub walked_is : is_err r ≡ false → walked (said_number r) vs₂ bs₂ s₃ ≡ walking t a (rooms_at vs bs s)
  unfolding ended
  walked_is f = ends (walked (said_number r) vs₂ bs₂ s₃) (ap (λ x. walked (said_number r) vs₂ bs₂ x) z ∙ go r f)
    where
      go : (r : Result ℕ Refusal) → is_err r ≡ false → walked (said_number r) vs₂ bs₂ (replicate (length s₂) 0) ≡ ended (said_number r) vs₂ bs₂ s₂
      go (Ok n) f = refl
      go (Err x) f = absurd (let y : true ≡ false = f in cc)

  pub walked_refused : (vs₃ bs₃ : List ℕ) → Cleared vs₂ bs₂ vs₃ bs₃ → is_err r ≡ true → walked (said_number r) vs₃ bs₃ s₃ ≡ walking t a (rooms_at vs bs s)
  unfolding ended unwalked
  walked_refused vs₃ bs₃ l f = ends (walked (said_number r) vs₃ bs₃ s₃) (go r f)
    where
      go : (r : Result ℕ Refusal) → is_err r ≡ true → walked (said_number r) vs₃ bs₃ s₃ ≡ ended (said_number r) vs₂ bs₂ s₂
      go (Ok n) f = absurd (let y : false ≡ true = f in cc)
      go (Err x) f = cc (l.levels, l.labels)
