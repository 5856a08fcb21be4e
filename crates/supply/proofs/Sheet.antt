-- A lawful sheet: its terms, the range of each line, and that the single lines in a row give the whole.
use Rattle.std.proofs.Common.{◌≡◌, ℕ, ◌+◌, ◌≤◌, false, List, length, ℤ, ◌+ℤ◌, Ok, Result, arith}
use Rattle.std.specs.List.{list_any}
use Rattle.std.proofs.lemmas.Int.{ints}
use Rattle.refusals.specs.Checks.{answer_unless, first}
use Rattle.rounding.proofs.Widths.{in64}
use Rattle.supply.specs.declared.blocks.Block.{Block}
use Rattle.supply.specs.declared.refusal.Refusal.{Refusal}
use Rattle.supply.specs.declared.tranches.Tranche.{Tranche}
use Rattle.supply.specs.declared.terms.Terms.{Terms}
use Rattle.supply.specs.Figures.{price_out, printed_out, share_out}
use Rattle.supply.specs.Kinds.{Lawful}
use Rattle.supply.specs.Lines.{a_block, a_tranche}
use Rattle.supply.specs.Schedule.{LineByLine, block_average, lines_of, part_of, rest_of, sheet_checks, subtotal_of, tranche_average}
use Rattle.supply.specs.Terms.{seasons_out, terms_out}
use Rattle.supply.proofs.Bits.{same}
use Rattle.supply.proofs.Figured.{Between, price_inside, prices_inside, printed, share_inside}
use Rattle.supply.proofs.Sizes.{block_average_between, part_between, rest_between, summed, tranche_average_between}

-- the parts of what the terms' test says
pub record InTerms (terms : Terms) : Type 0 where
  pub tranche : share_out terms.tranche_share ≡ false
  pub fixed : share_out terms.fixed_share ≡ false
  pub seasons : seasons_out terms.seasons ≡ false
  pub variable : price_out terms.variable_price ≡ false
  pub adders : list_any price_out terms.adders ≡ false

pub in_terms : (terms : Terms) → terms_out terms ≡ false → InTerms terms
unfolding terms_out
in_terms terms e = record { tranche = grind arith; fixed = grind arith; seasons = grind arith; variable = grind arith; adders = grind arith }

pub wider : (m n : ℕ) (z : ℤ) → m ≤ n → Between 0 m z → Between 0 n z
wider m n z h b = (b.0, omega (arith, ints, b.1))

pub sum_between : (m n : ℕ) (a b : ℤ) → Between 0 m a → Between 0 n b → Between 0 (m + n) (a +ℤ b)
sum_between m n a b x y = (omega (arith, ints), omega (arith, ints))

pub subtotal_between : (k : ℕ) (fixed variable : ℤ) (adders : List ℤ) → Between 0 k fixed → Between 0 k variable → list_any price_out adders ≡ false → length adders ≤ 3
    → Between 0 (k + k + 300000) (subtotal_of fixed variable adders)
unfolding subtotal_of
subtotal_between k fixed variable adders f v e short =
    let b = summed (k + k) (fixed +ℤ variable) adders (sum_between k k fixed variable f v) (prices_inside adders e) in
    (b.0, omega (arith, ints, b.1))

-- a lawful sheet
pub record LawfulSheet (ts : List Tranche) (bs : List Block) (x : Terms) : Type 0 where
  pub tranches : Lawful a_tranche ts
  pub blocks : Lawful a_block bs
  pub terms : InTerms x
  pub three : length x.adders ≡ 3

-- the lines of a lawful sheet
module _ (tranches : List Tranche) (blocks : List Block) (terms : Terms) where
  abbrev pub line_1 : ℤ
  line_1 = tranche_average tranches terms.seasons

  abbrev pub line_2 : ℤ
  line_2 = part_of line_1 terms.tranche_share

  abbrev pub line_3 : ℤ
  line_3 = block_average blocks

  abbrev pub fixed : ℤ
  fixed = part_of line_3 terms.fixed_share

  abbrev pub variable : ℤ
  variable = rest_of terms.variable_price terms.fixed_share

  abbrev pub line_5 : ℤ
  line_5 = subtotal_of fixed variable terms.adders

  abbrev pub line_6 : ℤ
  line_6 = rest_of line_5 terms.tranche_share

  pub low_1 : LawfulSheet tranches blocks terms → Between 0 200000 line_1
  low_1 ok = tranche_average_between tranches terms.seasons ok.tranches ok.terms.seasons

  pub low_2 : LawfulSheet tranches blocks terms → Between 0 200000 line_2
  low_2 ok = part_between line_1 terms.tranche_share 200000 (low_1 ok) (share_inside terms.tranche_share ok.terms.tranche)

  pub low_3 : LawfulSheet tranches blocks terms → Between 0 100000 line_3
  low_3 ok = block_average_between blocks ok.blocks

  pub low_fixed : LawfulSheet tranches blocks terms → Between 0 100000 fixed
  low_fixed ok = part_between line_3 terms.fixed_share 100000 (low_3 ok) (share_inside terms.fixed_share ok.terms.fixed)

  pub low_variable : LawfulSheet tranches blocks terms → Between 0 100000 variable
  low_variable ok =
      rest_between terms.variable_price terms.fixed_share 100000 (price_inside terms.variable_price ok.terms.variable) (share_inside terms.fixed_share ok.terms.fixed)

  pub low_5 : LawfulSheet tranches blocks terms → Between 0 500000 line_5
  low_5 ok = subtotal_between 100000 fixed variable terms.adders (low_fixed ok) (low_variable ok) ok.terms.adders (let three = ok.three in omega arith)

  pub low_6 : LawfulSheet tranches blocks terms → Between 0 500000 line_6
  low_6 ok = rest_between line_5 terms.tranche_share 500000 (low_5 ok) (share_inside terms.tranche_share ok.terms.tranche)

  -- a price of a smaller range is one that a line can print
  fine : (k : ℕ) (z : ℤ) → k ≤ 1000000 → Between 0 k z → printed_out z ≡ false
  fine k z h x = printed z (wider k 1000000 z h x)

  pub line_by_line : LawfulSheet tranches blocks terms → LineByLine tranches blocks terms (lines_of tranches blocks terms)
  unfolding lines_of
  line_by_line ok =
      let one = fine 200000 line_1 (omega arith) (low_1 ok) in
      let two = fine 200000 line_2 (omega arith) (low_2 ok) in
      let three = fine 100000 line_3 (omega arith) (low_3 ok) in
      let f = fine 100000 fixed (omega arith) (low_fixed ok) in
      let v = fine 100000 variable (omega arith) (low_variable ok) in
      let price = fine 100000 terms.variable_price (omega arith) (price_inside terms.variable_price ok.terms.variable) in
      let five = fine 500000 line_5 (omega arith) (low_5 ok) in
      let six = fine 500000 line_6 (omega arith) (low_6 ok) in
      record {
        line_1 = grind arith;
        line_2 = grind arith;
        line_3 = grind arith;
        fixed = grind arith;
        variable = grind arith;
        line_5 = grind arith;
        line_6 = grind arith;
        line_7 = grind arith;
      }

  -- the calls in a row answer the sheet's lines, each of which the code hands on as it is
  pub record Row : Type 0 where
    pub lines : LineByLine tranches blocks terms (lines_of tranches blocks terms)
    pub tranche_share : in64 terms.tranche_share ≡ terms.tranche_share
    pub fixed_share : in64 terms.fixed_share ≡ terms.fixed_share
    pub variable_price : in64 terms.variable_price ≡ terms.variable_price
    pub same_1 : in64 (lines_of tranches blocks terms).tranche_average ≡ (lines_of tranches blocks terms).tranche_average
    pub same_2 : in64 (lines_of tranches blocks terms).tranche_part ≡ (lines_of tranches blocks terms).tranche_part
    pub same_3 : in64 (lines_of tranches blocks terms).block_average ≡ (lines_of tranches blocks terms).block_average
    pub same_fixed : in64 (lines_of tranches blocks terms).fixed_part ≡ (lines_of tranches blocks terms).fixed_part
    pub same_variable : in64 (lines_of tranches blocks terms).variable_part ≡ (lines_of tranches blocks terms).variable_part
    pub same_5 : in64 (lines_of tranches blocks terms).block_subtotal ≡ (lines_of tranches blocks terms).block_subtotal
    pub same_6 : in64 (lines_of tranches blocks terms).block_part ≡ (lines_of tranches blocks terms).block_part
    pub same_7 : in64 (lines_of tranches blocks terms).cost_component ≡ (lines_of tranches blocks terms).cost_component

  handed : (k : ℕ) (z : ℤ) → k ≤ 4000000 → Between 0 k z → in64 z ≡ z
  handed k z h x = same z (wider k 4000000 z h x)

  pub in_a_row : LawfulSheet tranches blocks terms → Row
  unfolding lines_of
  in_a_row ok =
      record {
        lines = line_by_line ok;
        tranche_share = handed 10000 terms.tranche_share (omega arith) (share_inside terms.tranche_share ok.terms.tranche);
        fixed_share = handed 10000 terms.fixed_share (omega arith) (share_inside terms.fixed_share ok.terms.fixed);
        variable_price = handed 100000 terms.variable_price (omega arith) (price_inside terms.variable_price ok.terms.variable);
        same_1 = handed 200000 line_1 (omega arith) (low_1 ok);
        same_2 = handed 200000 line_2 (omega arith) (low_2 ok);
        same_3 = handed 100000 line_3 (omega arith) (low_3 ok);
        same_fixed = handed 100000 fixed (omega arith) (low_fixed ok);
        same_variable = handed 100000 variable (omega arith) (low_variable ok);
        same_5 = handed 500000 line_5 (omega arith) (low_5 ok);
        same_6 = handed 500000 line_6 (omega arith) (low_6 ok);
        same_7 = handed 700000 (line_2 +ℤ line_6) (omega arith) (sum_between 200000 500000 line_2 line_6 (low_2 ok) (low_6 ok));
      }

-- what a sheet that no check refuses has
pub row : (tranches : List Tranche) (blocks : List Block) (terms : Terms) → ◌≡◌ {A = Result (Unit {0}) Refusal} (Ok tt) (answer_unless (first (sheet_checks tranches blocks terms)) tt) → length terms.adders ≡ 3
    → Row tranches blocks terms
row tranches blocks terms passed three =
    let x : terms_out terms ≡ false = grind arith in
    in_a_row tranches blocks terms (record { tranches = (grind arith, grind arith); blocks = (grind arith, grind arith); terms = in_terms terms x; three = three })
