use Rattle.std.proofs.Common.{◌≡◌, drop, map}
use Rattle.ia_lex.specs.Words.{row, find_word}
use Rattle.ia_lex.proofs.words.find_word.Given as goal

abbrev pub invariant-loop-i : goal.invariant-loop-i
invariant-loop-i g l = find_word (map row (drop l.i l.rows)) l.word ≡ find_word (map row l.rows) l.word
