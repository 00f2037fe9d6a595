-- The numbers of evidence (01, "Evidence": "Numbers as above"; 02 (b): "No padding in evidence"): how bytes spell them, how they are read, and by what
-- they are refused.
use Rattle.std.specs.Prelude.{◌≡◌, ◌⊎◌, List, ℕ}
use Rattle.number.specs.Number.{Number, Value, Refused}
use Rattle.number.specs.Shortest.{Spelled, read_spelled}
use Rattle.number.specs.Sequence.{SpellsShortest}
use Rattle.number.specs.Shortest as spelled

-- bytes that spell numbers one after the other, with nothing after, each "in shortest form": this "joins 01's spelling of evidence"
abbrev pub SpellsEvidence : List ℕ → List ℕ → Type 0
SpellsEvidence = SpellsShortest

-- "15 when an evidence number isn't in shortest form, tested just after 2 for that number"
abbrev pub unpadded : Spelled → Number
unpadded (spelled.Shortest v to) = Value v to
unpadded (spelled.Padded v to) = Refused 15
unpadded (spelled.Refused r) = Refused r

-- the number at an offset and the offset after it, or its refusal
unfoldable pub read_evidence : List ℕ → ℕ → Number
read_evidence bs at = unpadded (read_spelled bs at)

-- "by 1, 2", and 15
abbrev pub NumberRefusal : ℕ → Type 0
NumberRefusal r = (r ≡ 1) ⊎ (r ≡ 2) ⊎ (r ≡ 15)
