-- Bytes laid into a lent output from an offset on, and how many our evidence takes at most.
use Rattle.std.specs.Prelude.{◌≡◌, cond, List, ◌++◌, ℕ, ◌+◌, ◌*◌, ◌≤◌, length, drop, ltb}
use Rattle.std.proofs.lemmas.List.Edits.{sets}
use Rattle.limits.specs.Limits.{max_clocks, max_states}

-- the most numbers of a step: a touch has its kind, a region, a count and a walk, which has at most one step more than there are states, and each
-- of these a kind and an edge
abbrev pub max_move_numbers : ℕ
max_move_numbers = 2 + 2 * max_clocks + 2 * (max_states + 1)

-- the most bytes of evidence, three a number: of a trail, with its 2, its count and fewer steps than there are states; a sheet has fewer numbers
abbrev pub max_bytes : ℕ
max_bytes = 3 * (2 + max_move_numbers * max_states)

-- They end at r. Where they fit, just they are stored; where they don't, only the length of the output is known to be kept.
pub record Lays (out out' : List ℕ) (at r : ℕ) (bs : List ℕ) : Type 0 where
  pub end : r ≡ at + length bs
  pub long : length out' ≡ length out
  pub laid : r ≤ length out → out' ≡ sets out at bs

-- the output in the end: "untouched on refusal; on success only the bytes written .. change", which "fill the output from its first byte"
abbrev pub filled : List ℕ → List ℕ → List ℕ
filled bs out = cond (ltb (length out) (length bs)) out (bs ++ drop (length bs) out)
