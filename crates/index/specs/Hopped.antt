-- The entries of a sheet's records, from header to header.
use Rattle.std.specs.Prelude.{ℕ, zero, suc, ◌+◌, List, [], ◌∷◌, drop}
use Rattle.layout.specs.Bytes.{number_in}
use Rattle.layout.specs.Fields.Header
use Rattle.layout.specs.Reading.Records.{header_in}
use Rattle.layout.specs.Shared.Reference.{localisation}
use Rattle.layout.specs.declared.Entry.{Entry}

-- the entry of the record that starts at a place of s
abbrev pub entry_of : List ℕ → ℕ → Entry
entry_of s place =
    record { code = (header_in (drop place s)).code; place = place; localisation = localisation (header_in (drop place s)).reference }

-- n records, of which the first starts at a place
unfoldable pub hopped : ℕ → ℕ → List ℕ → List Entry
hopped zero place s = []
hopped (suc n) place s = entry_of s place ∷ hopped n (place + number_in Header.total (drop place s)) s

-- where the record after them starts; shut, so that 56 hops are not computed
unfoldable pub place_after : ℕ → ℕ → List ℕ → ℕ
place_after zero place s = place
place_after (suc n) place s = place_after n (place + number_in Header.total (drop place s)) s
