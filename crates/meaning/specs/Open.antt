-- One name that opens every definition of the specs that computes: `unfolding all`. Of the tables alone.
use Rattle.meaning.specs.Bits.{opens, closes, tab, places, bit_at, bits_of, stored, cleared, value, pack, words_of}
use Rattle.meaning.specs.Answers.{provided, or_broken}
use Rattle.meaning.specs.Plain.{side, item, last, plain_rank, plain_select, plain_pred, plain_succ}
use Rattle.meaning.specs.Word.{word_bits, in_width, word_get, word_set, word_ones, word_rank, word_select, word_pred, word_succ, if_inside, word_close}
use Rattle.meaning.specs.BitString.{held, if_held, before_end, string_get, string_rank, string_select, string_pred, string_succ, string_size, edit_if, string_set, string_push, resized, string_resize}
use Rattle.meaning.specs.String.{closed, kept, nodes, string, nodes_at}
use Rattle.meaning.specs.List.{offending_from, offending, most_from, most}
use Rattle.meaning.specs.Match.{tail, loose, close_of, pass_open, pass_close, pass, ends}
use Rattle.meaning.specs.Pioneers.{pairs_from, pairs, far, alike, any, outermost, pioneers, is_end, flags_by, flags, keep, pioneer_string, higher}
use Rattle.meaning.specs.Dictionary.{bump, end_of, block_count, block, bytes_of, ones_to, byte_pos, pair_up, large_pos, large_rank, middle_pos, middle_rank, dict_with, dict_of, is_empty, start_at, leading, rank_walk, rank_from, limit, rank_of, nth, plus, select_walk, select_start, select_from, before, start_large, start_middle, placed, select_of, pred_of, select_next, succ_by, succ_of}
use Rattle.meaning.specs.Family.{tower}
use Rattle.meaning.specs.Close.{in_word, excess, left_bit, left_from, from_close, and_then, found, test, less, family_close, far_close, close_at}
use Rattle.meaning.specs.Child.{child}
use Rattle.meaning.specs.Sibling.{sibling, next}
use Rattle.meaning.specs.Walk.{lowest, back, onward, visits, walk, tell, visited}
use Rattle.meaning.specs.Size.{level_size, sum, byte_size}
use Rattle.meaning.specs.Leaves.{leaves, leaf_count, childless, leaf_levels}
use Rattle.meaning.specs.Areas.{joined, area_words, area_bytes, area_middle, area_large, filled, counts_of, own_dict, past, view, written, counted}
use Rattle.meaning.specs.Refusals.{check, full_block, full_at, full_from, first_of, level_rule, checks, refusal}
use Rattle.meaning.specs.Build.{rooms_of, tree_of, lent_of, zeroed, build}
use Rattle.meaning.specs.Growth.{rest_holds, one_root, levels_at, levels_of, grown, grown_tower, first_bits, sound_in, sound, grow_refusal, grow}
use Rattle.meaning.specs.Change.{asked, answer, spot}
use Rattle.meaning.specs.Questions.{counts_fit, at_bit, bit_in, close_in, node_refusal, labelled, first_child, sibling_by, next_sibling, heard, edge_of, leaves_by, leaves_below, count_size, size_in, sized, bytes_held, nodes_in, is_empty_in, label_of, label_in}
use Rattle.meaning.specs.Direct.{dict_refusal, entries_of, dict_plan, dict_size, dict_past, dict_rooms, dict_put, dict_write, dict_written, dict_zeroed, dict_build, dict_in, entries_fit, if_fit, dict_rank, dict_select, dict_pred, dict_succ}

unfoldable pub all : Unit {0}
unfolding opens closes tab places bit_at bits_of stored cleared value pack words_of provided or_broken side item last plain_rank plain_select plain_pred plain_succ word_bits in_width word_get word_set word_ones word_rank word_select word_pred word_succ if_inside word_close held if_held before_end string_get string_rank string_select string_pred string_succ string_size edit_if string_set string_push resized string_resize closed kept nodes string nodes_at offending_from offending most_from most tail loose close_of pass_open pass_close pass ends pairs_from pairs far alike any outermost pioneers is_end flags_by flags keep pioneer_string higher bump end_of block_count block bytes_of ones_to byte_pos pair_up large_pos large_rank middle_pos middle_rank dict_with dict_of is_empty start_at leading rank_walk rank_from limit rank_of nth plus select_walk select_start select_from before start_large start_middle placed select_of pred_of select_next succ_by succ_of tower in_word excess left_bit left_from from_close and_then found test less family_close far_close close_at child sibling next lowest back onward visits walk tell visited level_size sum byte_size leaves leaf_count childless leaf_levels joined area_words area_bytes area_middle area_large filled counts_of own_dict past view written counted check full_block full_at full_from first_of level_rule checks refusal rooms_of tree_of lent_of zeroed build rest_holds one_root levels_at levels_of grown grown_tower first_bits sound_in sound grow_refusal grow asked answer spot counts_fit at_bit bit_in close_in node_refusal labelled first_child sibling_by next_sibling heard edge_of leaves_by leaves_below count_size size_in sized bytes_held nodes_in is_empty_in label_of label_in dict_refusal entries_of dict_plan dict_size dict_past dict_rooms dict_put dict_write dict_written dict_zeroed dict_build dict_in entries_fit if_fit dict_rank dict_select dict_pred dict_succ
all = tt
