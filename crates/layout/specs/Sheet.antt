-- What a sheet holds, and the record table. Numbers are as stored; lengths, counts and the sum are not held, since they follow.
use Rattle.std.specs.Prelude.{ℕ, List}

-- a semantic item; the value with its closing zeros, without the length of type 128
pub record Item : Type 0 where
  pub code : ℕ
  pub type : ℕ
  pub scale : ℕ
  pub value : List ℕ

-- the first part of a record, or a subobject; elements as stored bits, the text without its closing zero
pub record Part : Type 0 where
  pub points : ℕ
  pub elements : List ℕ
  pub text : List ℕ

-- bytes 20 to 22 of a record
pub record Reference : Type 0 where
  pub byte20 : ℕ
  pub byte21 : ℕ
  pub byte22 : ℕ

pub record Record : Type 0 where
  pub code : ℕ
  pub in_group : ℕ
  pub group : ℕ
  pub reference : Reference
  pub generalisation : ℕ
  -- the word at +24
  pub word : ℕ
  -- "mark 0 or 1" (02, request 2)
  pub mark : ℕ
  pub first : Part
  pub subobjects : List Part
  pub items : List Item

-- what stands before the records and does not follow from them: "date, two designations, title, scale, the 304 bytes from +96,
-- the four at 444" (01, The record table)
pub record Head : Type 0 where
  pub date : List ℕ
  pub designation : List ℕ
  pub scale : ℕ
  pub title : List ℕ
  -- the 304 bytes from +96
  pub rest : List ℕ
  -- the descriptor's designation: "The two designations need not agree."
  pub designation2 : List ℕ
  -- the four bytes at 444
  pub carried : List ℕ

-- what stands after the first zero of the four text fields: "old letters", or zeros (02, 6)
pub record Tails : Type 0 where
  pub date : List ℕ
  pub designation : List ℕ
  pub title : List ℕ
  pub designation2 : List ℕ

pub record Sheet : Type 0 where
  pub head : Head
  pub tails : Tails
  pub records : List Record

-- the record table, and beside it "a pool of elements as stored bits and a pool of bytes"
pub record Table : Type 0 where
  pub numbers : List ℕ
  pub elements : List ℕ
  pub bytes : List ℕ
