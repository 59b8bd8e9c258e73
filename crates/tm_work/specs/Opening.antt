-- A board that is about to be shared.
use Rattle.std.specs.Prelude.{[], refl}
use Rattle.std.specs.Coded.{Coded, code_by, coded×}
use Rattle.atomic_table.specs.Seated.{TableId}
use Rattle.tm_hist.specs.Board.{ShownBoard}

-- the identity that the ledger of the seats can get, and the board
pub record NamedBoard : Type 0 where
  pub table : TableId
  pub given : ShownBoard

abbrev pub named_board_code : Coded TableId → Coded ShownBoard → Coded NamedBoard
named_board_code table board =
    code_by (TableId × ShownBoard) (coded× table board)
    (λ opening. (opening.table, opening.given)) (λ pair. record { table = pair.0; given = pair.1 }) (λ _. refl)

-- what stands for the board where no desk was opened
abbrev pub no_board : ShownBoard
no_board = record {
  program = record { bytes = []; base = 0; code_len = 0; mem_size = 0; entries = [] };
  limits = record { read_lines = 0; write_lines = 0; stores = 0 };
  limit = 0;
  history = [];
  machine = record {
    code = [];
    base = 0;
    read_lines = 0;
    write_lines = 0;
    store_buffer = 0;
    memory = [];
    views = [];
    pending = [];
  };
}
