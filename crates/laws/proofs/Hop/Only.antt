-- What an answer rests on. (02, request 5: "On other bytes it says only what the headers passed so far say. [..] contents and sum aren't checked.")
use mathlib.Core.Bool.{Bool, true, false, cond}
use mathlib.Core.List.{List, [], ◌∷◌}
use mathlib.Core.Path.{◌≡◌, refl, ap, ap₂, sym, ◌∙◌}
use Prim.Native.Nat.{ℕ, zero, suc, ◌+◌, ◌-◌}
use lib.Dec.{eqb, leb}
use lib.ListN.{length, drop, length-drop}
use native.Mathlib.Omega.{arith}
use Rattle.layout.specs.Bytes.{All, number_in, bytes_in}
use Rattle.layout.specs.Fields.Descriptor
use Rattle.layout.specs.Fields.Header as Field
use Rattle.layout.specs.Fields.Passport
use Rattle.layout.specs.Fields.{limit}
use Rattle.layout.specs.Hop.{hit, hop_checks, hop_from, start_checks, hop_walk, hop, frame, past, passed_from, passed, header_bytes}
use Rattle.layout.specs.Reading.Records.{header_in}
use Rattle.layout.specs.Reading.Sheets.{start, size_checks}
use Rattle.layout.specs.Refusals.{TOO_LONG, SHORT, NOT_SXF, LENGTH}
use Rattle.layout.specs.Walk.{Walk, ends, stops, meets, answer, always, ◌>>=◌, ◌>>◌, must, checks}
use Rattle.layout.specs.declared.Hop.{Hop}
use Rattle.laws.proofs.Base.Parts.{field-same, bytes_same}

-- a walk, and then two others that agree where it ends
past_same : {A B : Type 0} (P : ℕ → Type 0) (w : Walk A) (f : A → List ℕ) (g k : A → Walk B) → All P (past w f)
    → ((a : A) → All P (f a) → g a ≡ k a) → (w >>= g) ≡ (w >>= k)
past_same P (ends a) f g k h i = i a h
past_same P (stops n p) f g k h i = refl
past_same P (meets p z w) f g k h i = ap (λ v. meets p z v) (past_same P w f g k h i)

checks-same : (xs ys : List ℕ) → length xs ≡ length ys → (header_in xs).identifier ≡ (header_in ys).identifier → (header_in xs).total ≡ (header_in ys).total
    → hop_checks xs ≡ hop_checks ys
unfolding hop_checks
checks-same xs ys l i t = λ j.
    must (leb Field.size (l j)) SHORT 0
    ∷ must (eqb (i j) Field.identifier_is) NOT_SXF (Field.identifier).place
    ∷ must (leb Field.size (t j)) LENGTH (Field.total).place
    ∷ must (leb (t j) (l j)) SHORT (Field.total).place
    ∷ []

-- the header at a place says the same in two lists, as far as hopping looks at it: identifier, total length, code
pub record SameHeader (s t : List ℕ) (place : ℕ) : Type 0 where
  pub identifier : (header_in (drop place s)).identifier ≡ (header_in (drop place t)).identifier
  pub total : (header_in (drop place s)).total ≡ (header_in (drop place t)).total
  pub code : (header_in (drop place s)).code ≡ (header_in (drop place t)).code

-- what is done after the checks on a header
abbrev next : ℕ → ℕ → ℕ → ℕ → ℕ → ℕ → List ℕ → Walk Hop
next wanted left seen place code total s = cond (eqb code wanted) (ends (hit seen place total)) (hop_from wanted left (suc seen) (place + total) s)

-- no header: under 32 bytes left
none_left : {A : Type 0} (place : ℕ) (xs : List ℕ) (w : Walk A) → leb Field.size (length xs) ≡ false
    → (checks place (hop_checks xs) >> w) ≡ stops SHORT (place + 0)
unfolding hop_checks
none_left place xs w e = rw e refl

only_from : (wanted left seen place : ℕ) (s t : List ℕ) → length s ≡ length t → All (SameHeader s t) (passed_from wanted left place s)
    → hop_from wanted left seen place s ≡ hop_from wanted left seen place t
unfolding hop_from passed_from
only_from wanted zero seen place s t len same = refl
only_from wanted (suc left) seen place s t len same =
    go (λ p. only_from wanted left (suc seen) p s t len) (leb Field.size (length xs)) refl same
  where
    xs : List ℕ
    xs = drop place s

    ys : List ℕ
    ys = drop place t

    total : ℕ
    total = (header_in xs).total

    code : ℕ
    code = (header_in xs).code

    long : length xs ≡ length ys
    long = length-drop place s ∙ ap (λ n. n - place) len ∙ sym (length-drop place t)

    one : (b : Bool) → (All (SameHeader s t) (passed_from wanted left (place + total) s)
        → hop_from wanted left (suc seen) (place + total) s ≡ hop_from wanted left (suc seen) (place + total) t)
        → All (SameHeader s t) (cond b [] (passed_from wanted left (place + total) s))
        → cond b (ends (hit seen place total)) (hop_from wanted left (suc seen) (place + total) s)
        ≡ cond b (ends (hit seen place total)) (hop_from wanted left (suc seen) (place + total) t)
    one true k a = refl
    one false k a = k a

    go : ((p : ℕ) → All (SameHeader s t) (passed_from wanted left p s) → hop_from wanted left (suc seen) p s ≡ hop_from wanted left (suc seen) p t)
        → (b : Bool) → leb Field.size (length xs) ≡ b
        → All (SameHeader s t)
        (cond b (place ∷ past (checks place (hop_checks xs)) (λ _. cond (eqb code wanted) [] (passed_from wanted left (place + total) s))) [])
        → (checks place (hop_checks xs) >> next wanted left seen place code total s)
        ≡ (checks place (hop_checks ys) >> next wanted left seen place (header_in ys).code (header_in ys).total t)
    go k false e a = none_left place xs _ e ∙ sym (none_left place ys _ (ap (leb Field.size) (sym long) ∙ e))
    go k true e a =
        let h : SameHeader s t place = a.0 in
        past_same (SameHeader s t) (checks place (hop_checks xs)) (λ _. cond (eqb code wanted) [] (passed_from wanted left (place + total) s))
        (λ _. next wanted left seen place code total s) (λ _. next wanted left seen place code total t)
        a.1 (λ _. one (eqb code wanted) (k (place + total)))
        ∙ ap₂ (λ cs w. checks place cs >> w) (checks-same xs ys long h.identifier h.total)
        (ap₂ (λ x y. next wanted left seen place x y t) h.code h.total)

-- Two lists of one length that have the same numbers at 0, 400 and 440, and the same identifier, total length and code in each header passed in
-- one of them, get one answer, a refusal too.
pub hop_fields : (wanted : ℕ) (s t : List ℕ) → length s ≡ length t
    → number_in Passport.identifier s ≡ number_in Passport.identifier t
    → number_in Descriptor.identifier s ≡ number_in Descriptor.identifier t
    → number_in Descriptor.count s ≡ number_in Descriptor.count t
    → All (SameHeader s t) (passed wanted s)
    → hop wanted s ≡ hop wanted t
unfolding hop hop_walk passed start_checks size_checks
hop_fields wanted s t len p d count same =
    let checks-are : start_checks s ≡ start_checks t = λ j.
    must (leb (len j) limit) TOO_LONG 0
    ∷ must (leb start (len j)) SHORT 0
    ∷ must (eqb (p j) Passport.identifier_is) NOT_SXF (Passport.identifier).place
    ∷ must (eqb (d j) Descriptor.identifier_is) NOT_SXF (Descriptor.identifier).place
    ∷ [] in
    ap (λ w. answer always w)
    (past_same (SameHeader s t) (checks 0 (start_checks s)) (λ _. passed_from wanted (number_in Descriptor.count s) start s)
    (λ _. hop_from wanted (number_in Descriptor.count s) 0 start s) (λ _. hop_from wanted (number_in Descriptor.count s) 0 start t)
    same (λ _. only_from wanted (number_in Descriptor.count s) 0 start s t len)
    ∙ ap₂ (λ cs n. checks 0 cs >> hop_from wanted n 0 start t) checks-are count)

-- the header at a place is the same in two lists
abbrev pub SameBytes : List ℕ → List ℕ → ℕ → Type 0
SameBytes s t place = header_bytes place s ≡ header_bytes place t

headers_same : (s t : List ℕ) (l : List ℕ) → All (SameBytes s t) l → All (SameHeader s t) l
headers_same s t [] h = tt
headers_same s t (place ∷ l) h = (
  record {
    identifier = field-same Field.identifier Field.size (drop place s) (drop place t) (omega arith) h.0;
    total = field-same Field.total Field.size (drop place s) (drop place t) (omega arith) h.0;
    code = field-same Field.code Field.size (drop place s) (drop place t) (omega arith) h.0;
  },
  headers_same s t l h.1,
)

-- The answer depends only on the length, the bytes 0 to 3, 400 to 403 and 440 to 443, and the headers passed.
pub hop_only : (wanted : ℕ) (s t : List ℕ) → length s ≡ length t
    → bytes_in Passport.identifier s ≡ bytes_in Passport.identifier t
    → bytes_in Descriptor.identifier s ≡ bytes_in Descriptor.identifier t
    → bytes_in Descriptor.count s ≡ bytes_in Descriptor.count t
    → All (SameBytes s t) (passed wanted s)
    → hop wanted s ≡ hop wanted t
hop_only wanted s t len passport descriptor count same =
    hop_fields wanted s t len (bytes_same Passport.identifier s t passport) (bytes_same Descriptor.identifier s t descriptor)
    (bytes_same Descriptor.count s t count) (headers_same s t (passed wanted s) same)

-- The frame rests on the four bytes at 348 besides.
pub frame_only : (s t : List ℕ) → length s ≡ length t
    → bytes_in Passport.identifier s ≡ bytes_in Passport.identifier t
    → bytes_in Passport.frame s ≡ bytes_in Passport.frame t
    → bytes_in Descriptor.identifier s ≡ bytes_in Descriptor.identifier t
    → bytes_in Descriptor.count s ≡ bytes_in Descriptor.count t
    → All (SameBytes s t) (passed (number_in Passport.frame s) s)
    → frame s ≡ frame t
unfolding frame
frame_only s t len passport code descriptor count same =
    hop_only (number_in Passport.frame s) s t len passport descriptor count same
    ∙ ap (λ c. hop c t) (bytes_same Passport.frame s t code)
