-- The program `listwalk`, either side of each edge of its input, proved by computing: the whole output for a whole input, byte by byte.
use Rattle.std.specs.Prelude.{◌≡◌, refl, List, [], ◌∷◌, ◌++◌, ℕ, zero, suc, take}
use Rattle.meaning.specs.Kin.{above, below, lower, parent}
use Rattle.meaning.specs.Listing.{decimal, digits, ended, line, digit, with_digit, scan, field, row, after, lines, text_of, head_line, sibling_field, node_line, node_text, nodes_text, id_at_level, sibling_id, listing, refusal_line, built, answer_to, listwalk_of}
use Rattle.meaning.specs.Open.{all}
use Rattle.meaning.specs.Quoted.{quoted}

-- n lines of two zeros
many : ℕ → List ℕ
many zero = []
many (suc n) = quoted "0\t0\n" ++ many n

pub record ListingRows : Type 0 where
  -- 01's example: input levels 0 1 1 0 with labels 10 20 30 40
  example : listwalk_of (quoted "0\t10\n1\t20\n1\t30\n0\t40\n")
      ≡ quoted "tree\t4\t10\t32\n1\t0\t10\t0\t4\n2\t1\t20\t1\t3\n3\t1\t30\t1\t-\n4\t0\t40\t0\t-\n"
  -- no bytes at all is the empty list
  empty : listwalk_of [] ≡ quoted "tree\t0\t2\t16\n"
  -- one node
  one : listwalk_of (quoted "0\t0\n") ≡ quoted "tree\t1\t4\t20\n1\t0\t0\t0\t-\n"
  -- a last line without its newline, if it is not empty, is bad
  unended : listwalk_of (quoted "0\t1\n0\t2") ≡ quoted "refused\t10\t2\n"
  -- leading zeros
  leading_zero : listwalk_of (quoted "0\t007\n") ≡ quoted "refused\t10\t1\n"
  -- a sign
  plus : listwalk_of (quoted "0\t+1\n") ≡ quoted "refused\t10\t1\n"
  -- the greatest label, and one more
  largest : listwalk_of (quoted "0\t4294967295\n") ≡ quoted "tree\t1\t4\t20\n1\t0\t4294967295\t0\t-\n"
  too_large : listwalk_of (quoted "0\t4294967296\n") ≡ quoted "refused\t10\t1\n"
  -- an empty line
  empty_line : listwalk_of (quoted "0\t1\n\n") ≡ quoted "refused\t10\t2\n"
  -- one field, and three
  one_field : listwalk_of (quoted "0\n") ≡ quoted "refused\t10\t1\n"
  third_field : listwalk_of (quoted "0\t1\t1\n") ≡ quoted "refused\t10\t1\n"
  -- a field without digits
  no_level : listwalk_of (quoted "\t1\n") ≡ quoted "refused\t10\t1\n"
  no_label : listwalk_of (quoted "0\t\n") ≡ quoted "refused\t10\t1\n"
  -- a carriage return, a space, a byte above 127, NUL
  return : listwalk_of (quoted "0\t1\r\n") ≡ quoted "refused\t10\t1\n"
  space : listwalk_of (quoted "0 1\n") ≡ quoted "refused\t10\t1\n"
  high : listwalk_of (quoted "0\t±\n") ≡ quoted "refused\t10\t1\n"
  nul : listwalk_of (quoted "0\t1\0\n") ≡ quoted "refused\t10\t1\n"
  -- levels 1: LEVEL 0; levels 0 2: LEVEL 1
  level_0 : listwalk_of (quoted "1\t0\n") ≡ quoted "refused\t3\t0\n"
  level_1 : listwalk_of (quoted "0\t0\n2\t0\n") ≡ quoted "refused\t3\t1\n"
  -- a bad line is told before a refusal of the build
  text_first : listwalk_of (quoted "1\t0\nx\n") ≡ quoted "refused\t10\t2\n"
  -- 512 lines: the head line; a byte more, and 513
  lines_512 : take 19 (listwalk_of (many 512)) ≡ quoted "tree\t512\t1026\t2259\n"
  byte_after : listwalk_of (many 512 ++ quoted "\n") ≡ quoted "refused\t10\t513\n"
  lines_513 : listwalk_of (many 513) ≡ quoted "refused\t10\t513\n"
  -- FULL carries two values
  full : refusal_line (record { number = 5; carries = 1 ∷ 0 ∷ [] }) ≡ quoted "refused\t5\t1\t0\n"
  -- the greatest number of 64 bits
  greatest : digits 18446744073709551615 ≡ quoted "18446744073709551615"

pub listing_rows : ListingRows
unfolding all above below lower parent decimal digits ended line digit with_digit scan field row after lines text_of head_line sibling_field node_line node_text nodes_text id_at_level sibling_id listing refusal_line built answer_to listwalk_of quoted many
listing_rows =
    record {
      example = refl;
      empty = refl;
      one = refl;
      unended = refl;
      leading_zero = refl;
      plus = refl;
      largest = refl;
      too_large = refl;
      empty_line = refl;
      one_field = refl;
      third_field = refl;
      no_level = refl;
      no_label = refl;
      return = refl;
      space = refl;
      high = refl;
      nul = refl;
      level_0 = refl;
      level_1 = refl;
      text_first = refl;
      lines_512 = refl;
      byte_after = refl;
      lines_513 = refl;
      full = refl;
      greatest = refl;
    }
