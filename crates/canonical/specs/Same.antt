-- 02: "two models with the same header, kinds, limits and edges in order", the mark among the header. Used places only.
use Rattle.std.specs.Prelude.{ℕ, ◌<◌, ◌≡◌, get_or}
use Rattle.parser.specs.Parse.{Reading}
use Rattle.model.specs.Model.{source_of, target_of, limit_at, low_at, high_at}

pub record SameContent (r s : Reading) : Type 0 where
  pub mark : r.mark ≡ s.mark
  pub clocks : r.model.clocks ≡ s.model.clocks
  pub ceiling : r.model.ceiling ≡ s.model.ceiling
  pub locations : r.model.locations ≡ s.model.locations
  pub edges : r.model.edges ≡ s.model.edges
  pub start : r.model.start ≡ s.model.start
  pub kind : (l : ℕ) → l < r.model.locations → get_or r.model.kind l 0 ≡ get_or s.model.kind l 0
  pub limit : (l x : ℕ) → l < r.model.locations → x < r.model.clocks → limit_at r.model l x ≡ limit_at s.model l x
  pub source : (e : ℕ) → e < r.model.edges → source_of r.model e ≡ source_of s.model e
  pub target : (e : ℕ) → e < r.model.edges → target_of r.model e ≡ target_of s.model e
  pub reset : (e : ℕ) → e < r.model.edges → get_or r.model.reset e 0 ≡ get_or s.model.reset e 0
  pub low : (e x : ℕ) → e < r.model.edges → x < r.model.clocks → low_at r.model e x ≡ low_at s.model e x
  pub high : (e x : ℕ) → e < r.model.edges → x < r.model.clocks → high_at r.model e x ≡ high_at s.model e x
