-- The text of a report in columns (docs/FORMATS.md, "Statistics"): each count stands behind its own name.
use Rattle.std.specs.Prelude.{ℕ, ◌==◌, Bool, List, [], ◌++◌, codes, if◌then◌else◌, string_bytes}
use Rattle.std.specs.Fmt.{decimal}
use Rattle.std.specs.List.{flat_map}
use Rattle.text_out.specs.TextLine.{line_end}
use Rattle.elide_stats.specs.declared.report.AbortRow.{AbortRow}
use Rattle.elide_stats.specs.declared.report.HitRow.{HitRow}
use Rattle.elide_stats.specs.declared.report.LineRow.{LineRow}
use Rattle.elide_stats.specs.declared.report.PlaceRow.{PlaceRow}
use Rattle.elide_stats.specs.declared.report.Report.{Report}
use Rattle.elide_stats.specs.declared.report.SizeRow.{SizeRow}
use Rattle.elide_stats.specs.declared.report.StepsRow.{StepsRow}

-- a number behind its name, and a word behind what stands before it
abbrev pub numbered : List ℕ → ℕ → List ℕ
numbered name number = name ++ decimal number

abbrev pub worded : List ℕ → List ℕ → List ℕ
worded name word = name ++ word

-- the last word of a line
abbrev pub ending : List ℕ → List ℕ
ending word = worded (codes " ") word ++ line_end

-- how the steps divide
abbrev pub inner_text : StepsRow → List ℕ
inner_text row =
    numbered (codes " committed ") row.committed ++ numbered (codes " aborted ") row.aborted
    ++ numbered (codes " open ") row.open

-- the drains, where there was one
unfoldable pub drains_text : ℕ → List ℕ
drains_text drained = if drained == 0 then [] else numbered (codes " drained ") drained

-- and those that neither are outside nor inside
unfoldable pub rest_text : StepsRow → List ℕ
rest_text row = numbered (codes " idle ") row.idle ++ drains_text row.drained

abbrev pub steps_text : StepsRow → List ℕ
steps_text row =
    numbered (codes "steps ") row.all ++ numbered (codes " outside ") row.outside ++ inner_text row ++ rest_text row
    ++ line_end

-- the transactions of a place
abbrev pub counts_text : PlaceRow → List ℕ
counts_text row =
    numbered (codes " begun ") row.begun ++ numbered (codes " committed ") row.committed
    ++ numbered (codes " aborted ") row.aborted ++ numbered (codes " lost ") row.lost

abbrev pub place_text : PlaceRow → List ℕ
place_text row =
    worded (codes "transaction ") (string_bytes row.place) ++ counts_text row ++ ending (string_bytes row.symbol)

-- the aborts of a place for a cause
abbrev pub abort_text : AbortRow → List ℕ
abort_text row =
    worded (codes "abort ") (string_bytes row.place) ++ worded (codes " ") (string_bytes row.cause)
    ++ numbered (codes " ") row.count ++ line_end

-- a size of the transactions of a place that committed: the least, the middle and the greatest
abbrev pub spread_text : SizeRow → List ℕ
spread_text row =
    numbered (codes " ") row.least ++ numbered (codes " ") row.median ++ numbered (codes " ") row.most ++ line_end

abbrev pub size_text : SizeRow → List ℕ
size_text row =
    worded (codes "size ") (string_bytes row.place) ++ worded (codes " ") row.of.now ++ spread_text row

-- the transactions that were doomed on a line
abbrev pub line_text : LineRow → List ℕ
line_text row =
    worded (codes "line ") (string_bytes row.line) ++ numbered (codes " doomed ") row.count
    ++ ending (string_bytes row.symbols)

-- the transactions of a place that steps of a place doomed on a line
abbrev pub sharing_text : Bool → List ℕ
sharing_text false_sharing = if false_sharing then codes "false-sharing" else codes "true-sharing"

abbrev pub places_text : HitRow → List ℕ
places_text row =
    worded (codes " ") (string_bytes row.from) ++ worded (codes " ") (string_bytes row.victim)
    ++ numbered (codes " ") row.count

abbrev pub symbols_text : HitRow → List ℕ
symbols_text row =
    worded (codes " ") (string_bytes row.from_symbol) ++ worded (codes " ") (string_bytes row.victim_symbol)
    ++ ending (sharing_text row.false_sharing)

abbrev pub hit_text : HitRow → List ℕ
hit_text row =
    worded (codes "hit ") (string_bytes row.line) ++ worded (codes " ") row.by.now ++ places_text row
    ++ symbols_text row

-- the whole report, a row a line
abbrev pub conflicts_text : Report → List ℕ
conflicts_text report = flat_map line_text report.lines.items ++ flat_map hit_text report.hits.items

abbrev pub transactions_text : Report → List ℕ
transactions_text report =
    flat_map place_text report.transactions.items ++ flat_map abort_text report.aborts.items
    ++ flat_map size_text report.sizes.items

abbrev pub columns_text : Report → List ℕ
columns_text report = steps_text report.steps ++ transactions_text report ++ conflicts_text report
