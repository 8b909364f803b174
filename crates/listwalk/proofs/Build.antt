-- A build's outcome in the program's areas: a tree that stands and is listed, or LEVEL.
use mathlib.Core.Path.{◌≡◌, refl, sym, ap, ◌∙◌}
use mathlib.Core.Option.{Option, none, some}
use mathlib.Core.List.{List}
use Prim.Native.Nat.{ℕ, ◌≤◌}
use native.Mathlib.Omega.{arith}
use lib.ListN.{length, get_or}
use lib.Seq.{sets}
use Rattle.meaning.specs.Answers.{Refusal, is, refused}
use Rattle.meaning.specs.Bits.{tab}
use Rattle.meaning.specs.String.{string}
use Rattle.meaning.specs.List.{offending}
use Rattle.meaning.specs.Family.{tower}
use Rattle.meaning.specs.Size.{byte_size}
use Rattle.meaning.specs.Areas.{Rooms}
use Rattle.meaning.specs.Refusals.{refusal, level_rule}
use Rattle.meaning.specs.Build as meant
use Rattle.meaning.specs.Build.{After, zeroed, build}
use Rattle.meaning.specs.Growth.{first_bits, bits_in}
use Rattle.meaning.specs.Questions.{counts_fit, lent_at, bytes_held}
use Rattle.meaning.specs.Listing.{head_line, nodes_text, sibling_id, listing, refusal_line, built, Enough}
use Rattle.meaning.proofs.If.{if_none, if_some}
use Rattle.meaning.proofs.String.{string_length}
use Rattle.meaning.proofs.Accepted.{accepted_exactly}
use Rattle.meaning.proofs.Lent.{bits_in_lem}
use Rattle.meaning.proofs.Questions.{bytes_held_lem}
use Rattle.meaning.proofs.Listwalk.{only_level}
use Rattle.record.specs.declared.Catalogue.{Catalogue}
use Rattle.record.specs.Record.{tree_in, tree_of, lent_of}
use Rattle.refusal.specs.Said.{refusal_of}
use Rattle.refusal.specs.declared.Refusal as ours
use Rattle.balanced_parens.specs.Said.{said}
use Rattle.balanced_parens.specs.Areas as six
use Rattle.balanced_parens.specs.Areas.{after}
use Rattle.record.specs.declared.Counts.{Counts}
use Rattle.listing.specs.Said.{Puts, ids_in}
use Rattle.std.specs.Prelude as rust
use Rattle.std.specs.Prelude.{None, Some, Result, Ok, Err}
use Rattle.listing.proofs.Putting.{next, halted, spelt}
use Rattle.listwalk.specs.Standing.{Standing, asked}
use Rattle.listwalk.specs.Told.{or_zero}
use Rattle.listwalk.proofs.Column.{column_text}

-- what stands has the head line's values
module _ {vs : List ℕ} {d : Catalogue} (s : Standing vs d) where
  standing_nodes : d.counts.nodes ≡ length vs
  unfolding tree_in meant.tree_of
  standing_nodes = ap (λ t. t.nodes) s.tree

  standing_bits : get_or d.counts.bits 0 0 ≡ length (string vs)
  unfolding tree_in first_bits
  standing_bits =
      let e : bits_in (tree_of d) ≡ bits_in (meant.tree_of vs) = ap bits_in s.tree in
      omega (arith, bits_in_lem vs s.labels s.rooms s.accepted, string_length vs s.accepted.rule)

  standing_size : or_zero (bytes_held (tree_of d) (lent_of d)) ≡ byte_size (tower 4 (string vs)) (length vs)
  unfolding or_zero bytes_held counts_fit
  standing_size =
      let a = meant.lent_of vs s.labels s.rooms in
      ap (λ x. or_zero (bytes_held (tree_of d) x)) s.areas
      ∙ ap (λ t. or_zero (bytes_held t a)) s.tree
      ∙ ap or_zero (bytes_held_lem vs s.labels s.rooms s.accepted)

  -- the listing: the head line and the node lines
  module _ {o t : List ℕ} {p : rust.Option ℕ} (z : ℕ) (q : z ≡ or_zero (bytes_held (tree_of d) (lent_of d))) (bs : List ℕ)
      (h : Puts o 0 (head_line d.counts.nodes (get_or d.counts.bits 0 0) z) p t) where
    head : Puts o 0 (head_line (length vs) (length (string vs)) (byte_size (tower 4 (string vs)) (length vs))) p t
    head = spelt (λ i. head_line (sym standing_nodes i) (sym standing_bits i) (sym (q ∙ standing_size) i)) h

    pub listing_halted : {r : rust.Option ℕ} → p ≡ None → r ≡ None → Puts o 0 (listing vs bs) r t
    unfolding listing
    listing_halted e k = halted (nodes_text vs bs (sibling_id vs) (length vs)) head e k

    pub listing_next : {x : List ℕ} {r : rust.Option ℕ} (e ids : List ℕ) → length vs ≤ length e → ids ≡ sets e 0 (tab (sibling_id vs) 0 (length vs))
        → (a : ℕ) → p ≡ Some a → Puts t a (nodes_text vs bs (ids_in ids) (length vs)) r x → Puts o 0 (listing vs bs) r x
    unfolding listing
    listing_next e ids l f a k n = next head k (spelt (column_text vs bs e ids l f) n)

-- the answer of a build
module _ (vs bs : List ℕ) (rooms : Rooms) (o : Result Counts ours.Refusal) (w y m g u s : List ℕ) (e : after (said o) (six.lent_at w y m g u s) ≡ build vs bs rooms) where
  outcome_made : refusal vs bs rooms ≡ none → after (said o) (six.lent_at w y m g u s) ≡ record { reply = is (meant.tree_of vs); areas = meant.lent_of vs bs rooms }
  unfolding build
  outcome_made f = e ∙ if_none _ _ f

  outcome_refused : (r : Refusal) → refusal vs bs rooms ≡ some r → after (said o) (six.lent_at w y m g u s) ≡ record { reply = refused r; areas = zeroed rooms }
  unfolding build
  outcome_refused r f = e ∙ if_some _ _ r f

  -- where counts are answered, nothing is refused, and the tree stands
  module _ (c : Counts) (f : o ≡ Ok c) where
    made_accepted : refusal vs bs rooms ≡ none
    made_accepted = go (refusal vs bs rooms) refl
      where
        go : (x : Option Refusal) → refusal vs bs rooms ≡ x → refusal vs bs rooms ≡ none
        go none h = h
        go (some r) h =
            let a = ap (λ (t : After). t.reply) (outcome_refused r h) in
            let b = ap said f in
            let z : ◌≡◌ {A = ℕ} 0 1 = cc in absurd (omega arith)

    pub stands : (d : Catalogue) → d.counts ≡ c → lent_of d ≡ lent_at w y m g u → Standing vs d
    stands d i j =
        let a = outcome_made made_accepted in
        let p : said o ≡ is (meant.tree_of vs) = ap (λ (t : After). t.reply) a in
        let q : said o ≡ is (tree_in c) = ap said f in
        let x : tree_in c ≡ meant.tree_of vs = cc in
        record {
          labels = bs;
          rooms = rooms;
          accepted = (accepted_exactly vs bs rooms).0 made_accepted;
          tree = ap tree_in i ∙ x;
          areas = j ∙ ap (λ (t : After). asked t.areas) a;
        }

  refused_is : (r : ours.Refusal) → o ≡ Err r → refusal vs bs rooms ≡ some (refusal_of r)
  refused_is r f = go (refusal vs bs rooms) refl
    where
      go : (x : Option Refusal) → refusal vs bs rooms ≡ x → refusal vs bs rooms ≡ some (refusal_of r)
      go none h =
          let a = ap (λ (t : After). t.reply) (outcome_made h) in
          let b = ap said f in
          let z : ◌≡◌ {A = ℕ} 0 1 = cc in absurd (omega arith)
      go (some x) h =
          let a = ap (λ (t : After). t.reply) (outcome_refused x h) in
          let b = ap said f in
          let z : x ≡ refusal_of r = cc in h ∙ ap some z

  -- in areas that no list of at most 512 nodes overruns
  module _ (same : length vs ≡ length bs) (few : length vs ≤ 512) (big : Enough rooms) {a z : List ℕ} {p : rust.Option ℕ} where
    pub listed_made : (c : Counts) → o ≡ Ok c → Puts a 0 (listing vs bs) p z → Puts a 0 (built (level_rule (offending vs)) vs bs) p z
    unfolding built
    listed_made c f h = spelt (ap (λ x. built x vs bs) (sym (only_level vs bs rooms same few big) ∙ made_accepted c f)) h

    pub listed_refused : (r : ours.Refusal) → o ≡ Err r → Puts a 0 (refusal_line (refusal_of r)) p z
        → Puts a 0 (built (level_rule (offending vs)) vs bs) p z
    unfolding built
    listed_refused r f h = spelt (ap (λ x. built x vs bs) (sym (only_level vs bs rooms same few big) ∙ refused_is r f)) h
