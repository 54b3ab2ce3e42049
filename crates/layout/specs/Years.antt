-- The settings, and the year of each feature. (01, Years)
use Rattle.std.specs.Prelude.{ℕ, Bool, true, false, ◌||◌, List, [], ◌∷◌, ◌≡◌, refl, eqb}

-- "The setting is 1999, 2004, 2006, 2008, 2012, 2014, 2015, 2016 or 2017, fixed constants of the reader."
abbrev pub settings : List ℕ
settings = 1999 ∷ 2004 ∷ 2006 ∷ 2008 ∷ 2012 ∷ 2014 ∷ 2015 ∷ 2016 ∷ 2017 ∷ []

abbrev pub one_of : List ℕ → ℕ → Bool
one_of [] n = false
one_of (m ∷ ms) n = eqb n m || one_of ms n

abbrev pub is_setting : ℕ → Bool
is_setting year = one_of settings year

pub data Feature : Type 0 where
  spline_bits north_offset east_offset mark_65535 : Feature
  accuracy_set : Feature
  special_sorting binding_vectors unicode : Feature
  type_128 : Feature
  above_all below_all : Feature
  compressed_graphics : Feature
  multipolygon : Feature
  automatic_guid : Feature
  epsg_set vertical_alignment edit_date : Feature

-- "All else is 1999": what is no feature has no year of its own, and every setting has it.
abbrev pub since : Feature → ℕ
-- "2004 spline bits, offsets at +384 and +392 (any non-zero byte), the mark 65535"
since spline_bits = 2004
since north_offset = 2004
since east_offset = 2004
since mark_65535 = 2004
-- "2006 accuracy not 0"
since accuracy_set = 2006
-- "2008 special sorting, binding vector, Unicode"
since special_sorting = 2008
since binding_vectors = 2008
since unicode = 2008
-- "2012 type 128"
since type_128 = 2012
-- "2014 above, below"
since above_all = 2014
since below_all = 2014
-- "2015 compressed graphics"
since compressed_graphics = 2015
-- "2016 multipolygon"
since multipolygon = 2016
-- "2017 automatic GUID"
since automatic_guid = 2017
-- "Undated in 000 and set here to 2017: EPSG not 0, vertical alignment, edit date."
since epsg_set = 2017
since vertical_alignment = 2017
since edit_date = 2017

cases : (is_setting 1999 ≡ true) × (is_setting 2017 ≡ true) × (is_setting 2005 ≡ false) × (is_setting 2018 ≡ false) × (is_setting 0 ≡ false)
cases = (refl, refl, refl, refl, refl)
