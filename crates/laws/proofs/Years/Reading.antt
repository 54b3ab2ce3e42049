-- The reader's walk: its own refusals are never TOO NEW, and every feature it can meet is of 2017 or earlier.
use mathlib.Core.Bool.{Bool, true, false, ◌||◌}
use mathlib.Core.List.{List, [], ◌∷◌}
use mathlib.Core.Path.{refl}
use Prim.Native.Nat.{ℕ, ◌+◌, ◌*◌}
use lib.Dec.{eqb, leb}
use lib.ListN.{length, take, drop}
use Rattle.layout.specs.Bytes.{number, number_in, bytes_in, some, agree}
use Rattle.layout.specs.Fields.Descriptor
use Rattle.layout.specs.Fields.Header as Field
use Rattle.layout.specs.Fields.Item
use Rattle.layout.specs.Fields.Passport
use Rattle.layout.specs.Fields.Subobject
use Rattle.layout.specs.Reading.Items.{item_in, item_size, item_checks, item_walk}
use Rattle.layout.specs.Reading.Parts.{text_walk, part_walk, subobject_walk, metric_walk}
use Rattle.layout.specs.Reading.Records.{Header, header_in, metric_in, semantics_in, length_checks, mark_checks, header_walk, body_walk, record_with, record_walk}
use Rattle.layout.specs.Reading.Sheets.{start, size_checks, passport_checks, descriptor_checks, reserved_checks, sheet_walk}
use Rattle.layout.specs.Refusals.{SHORT, TEXT, LENGTH, COUNT, LEFT_OVER}
use Rattle.layout.specs.Shared.Carried.{rest_checks, carried_checks}
use Rattle.layout.specs.Shared.Mark.{is_mark, first_count, later_count}
use Rattle.layout.specs.Shared.Reference.{byte20, byte21, byte22, reference_checks, semantics, text_in_metric}
use Rattle.layout.specs.Shared.Widths.{point_size}
use Rattle.layout.specs.Sheet.{Reference, Record}
use Rattle.layout.specs.Walk.{Walk, must, ends, piece, times, pair, fill, whole}
use Rattle.laws.proofs.Base.Lists.{◌&◌}
use Rattle.laws.proofs.Years.Own.{Own, OwnChecks, OwnReader, own_checks, own_bind, own_then, own_times, own_pair, own_fill, own_whole}

-- the lists that the reader and the writer share
pub own_reference : (p q r : ℕ) (ref : Reference) → OwnChecks (reference_checks p q r ref)
unfolding reference_checks byte20 byte21 byte22
own_reference p q r ref = refl & refl & refl & refl & refl & refl & refl & refl & refl & refl & refl & refl & tt

pub own_rest : (l : List ℕ) → OwnChecks (rest_checks l)
unfolding rest_checks
own_rest l = refl & refl & refl & refl & refl & refl & refl & refl & refl & tt

pub own_carried : (l : List ℕ) → OwnChecks (carried_checks l)
unfolding carried_checks
own_carried l = refl & refl & refl & refl & refl & refl & tt

own_item : OwnReader item_walk
unfolding item_walk item_checks
own_item p xs =
    own_then p (must (leb Item.size (length xs)) LENGTH 0 ∷ []) _ (refl & tt)
    (own_then p (item_checks xs) (ends (piece (item_in xs) (item_size xs))) (refl & refl & refl & refl & refl & refl & refl & tt) tt)

own_text : (b : Bool) → OwnReader (text_walk b)
unfolding text_walk
own_text false p xs = tt
own_text true p xs =
    let l : ℕ = number 1 xs in
    own_then p (must (leb (l + 2) (length xs)) LENGTH 0 ∷ must (eqb (number 1 (drop (l + 1) xs)) 0) TEXT (l + 1) ∷ [])
    (ends (piece (take l (drop 1 xs)) (l + 2))) (refl & refl & tt) tt

own_part : (r : Reference) (n : ℕ) → OwnReader (part_walk r n)
unfolding part_walk
own_part r n p xs =
    let size : ℕ = n * point_size r in
    own_then p (must (leb size (length xs)) LENGTH 0 ∷ []) _ (refl & tt)
    (own_bind (text_walk (text_in_metric r) (p + size) (drop size xs)) _ (own_text (text_in_metric r) (p + size) (drop size xs)) (λ t. tt))

own_subobject : (r : Reference) (marked : Bool) → OwnReader (subobject_walk r marked)
unfolding subobject_walk
own_subobject r marked p xs =
    let n1 : ℕ = number_in Subobject.n1 xs in
    let n : ℕ = later_count n1 (number_in Subobject.n2 xs) in
    own_then p (must (leb Subobject.size (length xs)) LENGTH 0 ∷ must (marked || eqb n1 0) COUNT (Subobject.n1).place ∷ []) _ (refl & refl & tt)
    (own_bind (part_walk r n (p + Subobject.size) (drop Subobject.size xs)) _ (own_part r n (p + Subobject.size) (drop Subobject.size xs)) (λ a. tt))

own_metric : (r : Reference) (marked : Bool) (n k p : ℕ) (xs : List ℕ) → Own (metric_walk r marked n k p xs)
unfolding metric_walk
own_metric r marked n k p xs =
    own_whole LENGTH (pair (part_walk r n) (times k (subobject_walk r marked))) refl
    (own_pair (part_walk r n) (times k (subobject_walk r marked)) (own_part r n) (own_times k (subobject_walk r marked) (own_subobject r marked))) p xs

own_header : (p left : ℕ) (h : Header) → Own (header_walk p left h)
unfolding header_walk length_checks mark_checks
own_header p left h =
    own_then p (length_checks left h) _ (refl & refl & refl & refl & tt)
    (own_then p (reference_checks 20 21 22 h.reference) _ (own_reference 20 21 22 h.reference) (own_checks p (mark_checks h) (refl & tt)))

own_body : (h : Header) (p : ℕ) (metric after : List ℕ) → Own (body_walk h p metric after)
unfolding body_walk
own_body h p metric after =
    let marked : Bool = is_mark h.points in
    let count : ℕ = first_count h.points h.word in
    let end : ℕ = p + h.metric in
    own_bind (metric_walk h.reference marked count h.subobjects p metric) _ (own_metric h.reference marked count h.subobjects p metric)
    (λ ps. own_then end (must (agree (semantics h.reference) (some after)) LENGTH 0 ∷ []) _ (refl & tt)
    (own_bind (fill item_walk end after) _ (own_fill item_walk own_item end after) (λ is. tt)))

own_record : OwnReader record_walk
unfolding record_walk record_with
own_record p xs =
    let h : Header = header_in xs in
    let body : Walk Record = body_walk h (p + Field.size) (metric_in h xs) (semantics_in h xs) in
    own_then p (must (leb Field.size (length xs)) SHORT 0 ∷ []) _ (refl & tt)
    (own_bind (header_walk p (length xs) h) _ (own_header p (length xs) h)
    (λ _. own_bind body _ (own_body h (p + Field.size) (metric_in h xs) (semantics_in h xs)) (λ r. tt)))

pub own_sheet : (s : List ℕ) → Own (sheet_walk s)
unfolding sheet_walk size_checks passport_checks descriptor_checks reserved_checks
own_sheet s =
    let n : ℕ = number_in Descriptor.count s in
    own_then 0 (size_checks s) _ (refl & refl & tt)
    (own_then 0 (passport_checks s) _ (refl & refl & refl & refl & refl & refl & refl & tt)
    (own_then 0 (rest_checks (bytes_in Passport.rest s)) _ (own_rest (bytes_in Passport.rest s))
    (own_then 0 (descriptor_checks s) _ (refl & refl & refl & tt)
    (own_then 0 (carried_checks (bytes_in Descriptor.carried s)) _ (own_carried (bytes_in Descriptor.carried s))
    (own_then 0 (reserved_checks s) _ (refl & tt)
    (own_bind (whole LEFT_OVER (times n record_walk) start (drop start s)) _
    (own_whole LEFT_OVER (times n record_walk) refl (own_times n record_walk own_record) start (drop start s)) (λ l. tt)))))))
