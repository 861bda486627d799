use Rattle.std.proofs.Common.{◌≡◌, map, string_bytes}
use Rattle.std.specs.Prelude.{encode_utf8_all}
use Rattle.example_csv.specs.Aligned.{shown_char}
use Rattle.example_csv.proofs.write_aligned.show.Given as goal

abbrev pub invariant-loop-c : goal.invariant-loop-c
invariant-loop-c l = string_bytes l.cell ≡ encode_utf8_all (map shown_char l.yielded)
