-- Bars that are added behind others.
use Rattle.std.proofs.Common.{◌≡◌, ◌∙◌, List, [], ◌∷◌, ◌++◌, refl, sym, ap, append-nil, append_assoc}
use Rattle.tm_timeline.specs.Told.{GrowBars, Grows, bars, is_few}
use Rattle.tm_timeline.specs.declared.picture.Picture.{Picture}
use Rattle.tm_timeline.specs.declared.spans.Span.{Span}
use Rattle.tm_timeline.specs.declared.timeline.Timeline.{Timeline}

pub grown_same : (old new : Picture) → bars new ≡ bars old → GrowBars old new
grown_same old new same = ([], same ∙ sym (append-nil (bars old)))

pub grown_one : (old new : Picture) (span : Span) → bars new ≡ bars old ++ span ∷ [] → GrowBars old new
grown_one old new span added = (span ∷ [], added)

pub grown_more : (first next last : Picture) → GrowBars first next → GrowBars next last → GrowBars first last
grown_more first next last one other = (
  one.0 ++ other.0,
  other.1 ∙ (ap (λ (l : List Span). l ++ other.0) one.1 ∙ append_assoc (bars first) one.0 other.0),
)

pub grows_self : (a : Timeline) → Grows a a
grows_self a = record { window = refl; few = refl; bars = grown_same a.picture a.picture refl }

pub grows_more : (first next last : Timeline) → Grows first next → Grows next last → Grows first last
grows_more first next last one other = record {
  window = other.window ∙ one.window;
  few = other.few ∙ one.few;
  bars = grown_more first.picture next.picture last.picture one.bars other.bars;
}
