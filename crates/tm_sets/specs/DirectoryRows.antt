-- The rows of a directory.
use Rattle.tm_sets.specs.declared.threaded.Directory.{Directory}
use Rattle.tm_sets.specs.Threaded.{Rows, rows}

abbrev pub rows_of : Directory → Rows
rows_of d =
    rows d.entries.items d.core_heads.items d.line_heads.items d.free d.reads.items d.writes.items
    d.line_count d.read_lines d.write_lines
