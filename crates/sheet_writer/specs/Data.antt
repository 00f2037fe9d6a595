-- What our sheet of a system is made of.
use Rattle.std.specs.Prelude.{◌≡◌, List, ℕ, ◌/◌, ◌<◌, length, get_or, ltb}
use Rattle.theory.specs.System.{System}
use Rattle.theory.specs.Marked.{marks}
use Rattle.theory.specs.Height.{height}

-- for each state twice its height, with a bit of another meaning added, and a number that is above 0 just where the state is marked
pub record SheetData (Y : System) (hs ds : List ℕ) : Type 0 where
  pub heights_long : length hs ≡ Y.size
  pub marks_long : length ds ≡ Y.size
  pub heights : (p : ℕ) → p < Y.size → get_or hs p 0 / 2 ≡ height Y p
  pub marked : (p : ℕ) → p < Y.size → ltb 0 (get_or ds p 0) ≡ marks Y p
