-- The elements to lend for n nodes, computed from the definitions: the sizes of include/oscjardum.h are held against these.
use Rattle.std.specs.Prelude.{◌≡◌, refl}
use Rattle.meaning.specs.Bounds.{words_for, bytes_for, middle_for, large_for, words_up, bytes_up, middle_up, large_up}

pub record Table : Type 0 where
  pub words0 : words_for 0 ≡ 1
  pub bytes0 : bytes_for 0 ≡ 1
  pub middles0 : middle_for 0 ≡ 2
  pub larges0 : large_for 0 ≡ 2
  pub words31 : words_for 31 ≡ 1
  pub bytes31 : bytes_for 31 ≡ 1
  pub middles31 : middle_for 31 ≡ 2
  pub larges31 : large_for 31 ≡ 2
  pub words32 : words_for 32 ≡ 3
  pub bytes32 : bytes_for 32 ≡ 4
  pub middles32 : middle_for 32 ≡ 4
  pub larges32 : large_for 32 ≡ 4
  pub words1000 : words_for 1000 ≡ 35
  pub bytes1000 : bytes_for 1000 ≡ 134
  pub middles1000 : middle_for 1000 ≡ 6
  pub larges1000 : large_for 1000 ≡ 6
  pub words65536 : words_for 65536 ≡ 2186
  pub bytes65536 : bytes_for 65536 ≡ 9270
  pub middles65536 : middle_for 65536 ≡ 142
  pub larges65536 : large_for 65536 ≡ 12
  pub words1048575 : words_for 1048575 ≡ 34953
  pub bytes1048575 : bytes_for 1048575 ≡ 148522
  pub middles1048575 : middle_for 1048575 ≡ 2186
  pub larges1048575 : large_for 1048575 ≡ 72

pub table : Table
unfolding words_for bytes_for middle_for large_for words_up bytes_up middle_up large_up
table =
    record {
      words0 = refl;
      bytes0 = refl;
      middles0 = refl;
      larges0 = refl;
      words31 = refl;
      bytes31 = refl;
      middles31 = refl;
      larges31 = refl;
      words32 = refl;
      bytes32 = refl;
      middles32 = refl;
      larges32 = refl;
      words1000 = refl;
      bytes1000 = refl;
      middles1000 = refl;
      larges1000 = refl;
      words65536 = refl;
      bytes65536 = refl;
      middles65536 = refl;
      larges65536 = refl;
      words1048575 = refl;
      bytes1048575 = refl;
      middles1048575 = refl;
      larges1048575 = refl;
    }
