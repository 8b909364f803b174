-- THE END: the first demand, from the contracts of all the operations.
use mathlib.Core.Path.{◌≡◌, refl, sym, ap, subst}
use mathlib.Core.Bool.{true, false}
use Rattle.meaning.specs.Answers.{Refusal, Answer}
use mathlib.Core.List.{List}
use Prim.Native.Nat.{ℕ}
use Rattle.meaning.specs.BitString.{Edited, edited}
use Rattle.meaning.specs.Build.{rooms_of}
use Rattle.meaning.specs.Dictionary.{Dict}
use Rattle.meaning.specs.Direct.{Entries, DictAfter, dict_past}
use Rattle.record.specs.Record.{tree_in}
use Rattle.questions.specs.Said.{node_of}
use Rattle.walk.specs.Said.{rooms_at}
use Rattle.sparse_one_nnd.specs.Said.{entries_in, after}
use Rattle.balanced_parens.proofs.Demands.{build_answers}
use Rattle.balanced_parens.proofs.AnyGrowth.{growth_answers}
use Rattle.mission.specs.FirstDemand.{FirstDemand, Told, Question, Change, six_in, catalogue_in, tree_at, asked_at, dict_in, dict_lent, rooms_in, words_in, bits_in}
use Rattle.mission.proofs.Told.{given, told_as, Sound}
use Rattle.mission.proofs.TreeTold.{nodes_told, is_empty_told, byte_size_told, bit_told, close_told, first_child_told, next_sibling_told, label_told, leaf_count_told}
use Rattle.mission.proofs.TreeTold.{WalkSound, walk_sound}
use Rattle.mission.proofs.StringTold.{get_told, rank_told, select_told, pred_told, succ_told, size_told, step_told, set_sound, push_sound, resize_sound}
use Rattle.mission.proofs.DictTold.{plan_told, build_sound, write_sound, dict_size_told}
use Rattle.mission.proofs.DictTold.{dict_rank_told, dict_select_told, dict_pred_told, dict_succ_told, rank_of_told, select_of_told, pred_of_told, succ_of_told}
use Rattle.mission.proofs.MadeTold.{build_numbered, growth_numbered, reply_told}

-- what is lent to a question is as it stood
question : {A L : Type 0} {R : Refusal → Type 0} {d x : Answer A} {before : L} → x ≡ d → Told R d → Question R d x before before
question q t = record { rules = q; told = told_as q t; kept = refl }

edit : {R : Refusal → Type 0} {d : Edited} {x : Answer ℕ} {before left : List ℕ} → edited x left ≡ d → Sound R before d.answer d.words
    → Change R edited d x before left
edit {R} {d} {x} {before} {left} q s =
    let t : Sound R before x left = subst (λ (e : Edited). Sound R before e.answer e.words) (sym q) s in
    record { rules = q; told = t.told; refuses = t.refuses }

made : {R : Refusal → Type 0} {d : DictAfter} {x : Answer Entries} {unmade left : Dict} → after x left ≡ d → Sound R unmade d.reply d.areas
    → Change R after d x unmade left
made {R} {d} {x} {unmade} {left} q s =
    let t : Sound R unmade x left = subst (λ (e : DictAfter). Sound R unmade e.reply e.areas) (sym q) s in
    record { rules = q; told = t.told; refuses = t.refuses }

pub first_demand : FirstDemand
first_demand =
    record {
      build = record {
        asks_nothing = λ κs a. tt;
        ends = λ κs a x w q.
            let b = build_answers a.0.now a.1.0.now (six_in a.1.1) _ x q in (
              reply_told x (λ r e.
                  let f = (b.first r).0 e in given (build_numbered a.0.now a.1.0.now (rooms_of (six_in a.1.1)) r f) f),
              b,
            );
      };
      grow = record {
        asks_nothing = λ κs a. tt;
        ends = λ κs a x w q.
            let c = a.1.1.1.1.1.1.0 in
            let v = a.1.1.1.1.1.1.1.0 in
            let g = growth_answers c v a.1.1.1.1.1.1.1.1.0 (six_in a) _ x q in
            (reply_told x (λ r e. let f = (g.first r).0 e in given (growth_numbered (tree_in c) (six_in a) v r f) f), g);
      };
      root = record { asks_nothing = λ κs a. tt; ends = λ κs a x w q. q };
      first_child_lem = record { asks_nothing = λ κs a. tt; ends = λ κs a x w q. question q (first_child_told (tree_at a) (catalogue_in a) (node_of (asked_at a))) };
      next_sibling_lem = record { asks_nothing = λ κs a. tt; ends = λ κs a x w q. question q (next_sibling_told (tree_at a) (catalogue_in a) (node_of (asked_at a))) };
      label = record { asks_nothing = λ κs a. tt; ends = λ κs a x w q. question q (label_told (tree_at a) (catalogue_in a) (node_of (asked_at a))) };
      leaf_count_lem = record { asks_nothing = λ κs a. tt; ends = λ κs a x w q. question q (leaf_count_told (tree_at a) (catalogue_in a) (node_of (asked_at a))) };
      nodes = record { asks_nothing = λ κs a. tt; ends = λ κs a x w q. question q (nodes_told (tree_at a) (catalogue_in a)) };
      is_empty_lem = record { asks_nothing = λ κs a. tt; ends = λ κs a x w q. question q (is_empty_told (tree_at a) (catalogue_in a)) };
      byte_size_lem = record { asks_nothing = λ κs a. tt; ends = λ κs a x w q. question q (byte_size_told (tree_at a) (catalogue_in a)) };
      get_close_lem = record { asks_nothing = λ κs a. tt; ends = λ κs a x w q. question q (close_told (tree_at a) (catalogue_in a) (asked_at a)) };
      get = record { asks_nothing = λ κs a. tt; ends = λ κs a x w q. question q (bit_told (tree_at a) (catalogue_in a) (asked_at a)) };
      walk = record {
        asks_nothing = λ κs a. tt;
        ends = λ κs a x w q.
            let own = a.1 in
            let rooms = rooms_at own.0.now own.1.0.now own.1.1.0.now in
            let s = subst (WalkSound (tree_at a) (catalogue_in a) rooms) (sym q) (walk_sound (tree_at a) (catalogue_in a) rooms) in
            record {
              rules = q;
              told = s.lists.told;
              refuses = λ r e. let z = s.lists.refuses r e in (ap (λ y. y.0) z, ap (λ y. y.1) z);
              scratch = s.scratch;
              kept = refl;
            };
      };
      string_get_lem = record { asks_nothing = λ κs a. tt; ends = λ κs a x w q. question q (get_told (words_in a) (bits_in a) a.1.0) };
      string_rank_one = record { asks_nothing = λ κs a. tt; ends = λ κs a x w q. question q (rank_told (words_in a) (bits_in a) true a.1.0) };
      string_rank_zero = record { asks_nothing = λ κs a. tt; ends = λ κs a x w q. question q (rank_told (words_in a) (bits_in a) false a.1.0) };
      string_select_one = record { asks_nothing = λ κs a. tt; ends = λ κs a x w q. question q (select_told (words_in a) (bits_in a) true a.1.0) };
      string_select_zero = record { asks_nothing = λ κs a. tt; ends = λ κs a x w q. question q (select_told (words_in a) (bits_in a) false a.1.0) };
      string_pred_one = record { asks_nothing = λ κs a. tt; ends = λ κs a x w q. question q (pred_told (words_in a) (bits_in a) true a.1.0) };
      string_pred_zero = record { asks_nothing = λ κs a. tt; ends = λ κs a x w q. question q (pred_told (words_in a) (bits_in a) false a.1.0) };
      string_succ_one = record { asks_nothing = λ κs a. tt; ends = λ κs a x w q. question q (succ_told (words_in a) (bits_in a) true a.1.0) };
      string_succ_zero = record { asks_nothing = λ κs a. tt; ends = λ κs a x w q. question q (succ_told (words_in a) (bits_in a) false a.1.0) };
      string_byte_size = record { asks_nothing = λ κs a. tt; ends = λ κs a x w q. question q (size_told (words_in a) (bits_in a)) };
      cursor_step = record { asks_nothing = λ κs a. tt; ends = λ κs a x w q. question q (step_told (words_in a.1) (bits_in a.1) a.0.next) };
      string_set_lem = record { asks_nothing = λ κs a. tt; ends = λ κs a x w q. edit q (set_sound a.0.now a.1.0 a.1.1.0 a.1.1.1.0) };
      string_push_lem = record { asks_nothing = λ κs a. tt; ends = λ κs a x w q. edit q (push_sound a.0.now a.1.0 a.1.1.0) };
      string_resize_lem = record { asks_nothing = λ κs a. tt; ends = λ κs a x w q. edit q (resize_sound a.0.now a.1.0 a.1.1.0) };
      dict_build_lem = record { asks_nothing = λ κs a. tt; ends = λ κs a x w q. made q (build_sound a.0.now a.1.0 (rooms_in (dict_lent a.1.1))) };
      dict_write_lem = record {
        asks_nothing = λ κs a. tt;
        ends = λ κs a x w q. made q (write_sound a.0.now a.1.0 (entries_in a.1.1.0) (dict_lent a.1.1.1));
      };
      dict_plan_lem = record { asks_nothing = λ κs a. tt; ends = λ κs a x w q. question q (plan_told a.0.now a.1.0) };
      dict_rank_one = record { asks_nothing = λ κs a. tt; ends = λ κs a x w q. question q (dict_rank_told (entries_in a.0) (dict_in a.1) a.1.1.0) };
      dict_select_one = record { asks_nothing = λ κs a. tt; ends = λ κs a x w q. question q (dict_select_told (entries_in a.0) (dict_in a.1) a.1.1.0) };
      dict_pred_one = record { asks_nothing = λ κs a. tt; ends = λ κs a x w q. question q (dict_pred_told (entries_in a.0) (dict_in a.1) a.1.1.0) };
      dict_succ_one = record { asks_nothing = λ κs a. tt; ends = λ κs a x w q. question q (dict_succ_told (entries_in a.0) (dict_in a.1) a.1.1.0) };
      dict_byte_size = record { asks_nothing = λ κs a. tt; ends = λ κs a x w q. question q (dict_size_told (entries_in a.0)) };
      dict_rank_part = record { asks_nothing = λ κs a. tt; ends = λ κs a x w q. question q (dict_rank_told (entries_in a.0) (dict_past (entries_in a.1.0) (dict_in a.1.1)) a.1.1.1.0) };
      dict_select_part = record { asks_nothing = λ κs a. tt; ends = λ κs a x w q. question q (dict_select_told (entries_in a.0) (dict_past (entries_in a.1.0) (dict_in a.1.1)) a.1.1.1.0) };
      dict_pred_part = record { asks_nothing = λ κs a. tt; ends = λ κs a x w q. question q (dict_pred_told (entries_in a.0) (dict_past (entries_in a.1.0) (dict_in a.1.1)) a.1.1.1.0) };
      dict_succ_part = record { asks_nothing = λ κs a. tt; ends = λ κs a x w q. question q (dict_succ_told (entries_in a.0) (dict_past (entries_in a.1.0) (dict_in a.1.1)) a.1.1.1.0) };
      dict_rank_lem = record { asks_nothing = λ κs a. tt; ends = λ κs a x w q. question q (rank_of_told (dict_in a) a.1.0) };
      dict_select_lem = record { asks_nothing = λ κs a. tt; ends = λ κs a x w q. question q (select_of_told (dict_in a) a.1.0) };
      dict_pred_lem = record { asks_nothing = λ κs a. tt; ends = λ κs a x w q. question q (pred_of_told (dict_in a) a.1.0) };
      dict_succ_lem = record { asks_nothing = λ κs a. tt; ends = λ κs a x w q. question q (succ_of_told (dict_in a) a.1.0) };
    }
