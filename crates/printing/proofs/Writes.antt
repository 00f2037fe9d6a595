-- A print after one that did not fail writes its text, or a front of it, behind the other's; after one that failed none comes.
use Rattle.std.proofs.Common.{◌≡◌, ℕ, List, [], ◌++◌, Result, Ok, Err, IsErr, rules, take, drop, sym, ap, ◌∙◌, subst, append_assoc, take-append-drop}
use Rattle.std.specs.Io.KnownBytes.{Appends}
use Rattle.std.proofs.KnownBytes.{Appends-nil, Appends-trans}
use Rattle.std.specs.declared.option.Option.{Option}
use Rattle.printing.specs.Text.{Grows, AppendsFront, Writes}

pub behind : (a b c : Option (List ℕ)) (first second : List ℕ) → Appends a b first → AppendsFront b c second → AppendsFront a c (first ++ second)
behind a b c first second p q =
    let (front, rest, split, appended) = q in
    (first ++ front, rest, ap (λ l. first ++ l) split ∙ sym (append_assoc first front rest), Appends-trans a b c first front p appended)

pub writes_then : {T E : Type 0} (a b c : Option (List ℕ)) (first second : List ℕ) (r : Result T E) → Appends a b first → Writes b c r second
    → Writes a c r (first ++ second)
writes_then a b c first second (Ok x) p q = Appends-trans a b c first second p q
writes_then a b c first second (Err e) p q = behind a b c first second p q

pub cut : (a b : Option (List ℕ)) (first second : List ℕ) → AppendsFront a b first → AppendsFront a b (first ++ second)
cut a b first second p =
    let (front, rest, split, appended) = p in
    (front, rest ++ second, ap (λ l. l ++ second) split ∙ append_assoc front rest second, appended)

pub front_of : (a b : Option (List ℕ)) (n : ℕ) (bs : List ℕ) → Appends a b (take n bs) → AppendsFront a b bs
front_of a b n bs p = (take n bs, drop n bs, sym (take-append-drop n bs), p)

pub failed : {T E : Type 0} (a b : Option (List ℕ)) (bs : List ℕ) (r : Result T E) → IsErr r → AppendsFront a b bs → Writes a b r bs
failed a b bs (Ok x) wrong p = absurd (search rules)
failed a b bs (Err e) is p = p

-- one value's text is an equal value's
pub same_text : {T E F : Type 0} (text : F → List ℕ) (f g : F) → f ≡ g → (a b : Option (List ℕ)) (r : Result T E) → Writes a b r (text g) → Writes a b r (text f)
same_text text f g e a b r p = subst (λ h. Writes a b r (text h)) (sym e) p

-- ---- what only grows

pub grows_by_none : (a : Option (List ℕ)) → Grows a a
grows_by_none a = record { more = []; appended = Appends-nil a }

pub grows_then : (a b c : Option (List ℕ)) → Grows a b → Grows b c → Grows a c
grows_then a b c p q = record { more = p.more ++ q.more; appended = Appends-trans a b c p.more q.more p.appended q.appended }

-- a print only adds, whether it fails or not
pub writes_grow : {T E : Type 0} (a b : Option (List ℕ)) (bs : List ℕ) (r : Result T E) → Writes a b r bs → Grows a b
writes_grow a b bs (Ok x) p = record { more = bs; appended = p }
writes_grow a b bs (Err e) p = record { more = p.0; appended = p.3 }

pub appends_grow : (a b : Option (List ℕ)) (bs : List ℕ) → Appends a b bs → Grows a b
appends_grow a b bs p = record { more = bs; appended = p }

-- what a search needs where prints follow one another
pub ruleset growing = (writes_grow, appends_grow, grows_by_none, grows_then)
