-- Refusals that name the size of a pattern: only those of tables of patterns do.
use Rattle.std.proofs.Common.{◌≡◌, ◌≢◌, ◌++◌, ℕ, Bool, false, List, [], ◌∷◌, Option, None, Some, Result, Ok, Err, codes, refl, sym, ap, ◌∙◌, arith}
use Rattle.std.specs.Str.{bytes_eq}
use Rattle.pf_base.specs.Results.{◌>>=◌}
use Rattle.pf_base.specs.Clauses.Faults.{as_fault}
use Rattle.pf_base.specs.Refusal.{refused}
use Rattle.pf_base.specs.Text.Logical.{Physical, grouped, physical_lines}
use Rattle.pf_base.specs.declared.pair.Pair.{Pair}
use Rattle.pf_base.specs.declared.refused.Cause.TheVariants.{C1, C9, C11}
use Rattle.pf_base.specs.declared.refused.ConfFault.{ConfFault}
use Rattle.pf_base.specs.declared.refused.ConfFault.TheVariants as conf_fault
use Rattle.pf_base.specs.declared.refused.Refused.{Refused}
use Rattle.pf_base.specs.declared.text.logical.Logical.{Logical}
use Rattle.pf_cdb.specs.Damaged.{first_damage}
use Rattle.pf_cdb.specs.declared.damage.Damage.{Damage}
use Rattle.pf_cdb.specs.declared.damage.Damage.TheVariants as damage
use Rattle.pf_cidr.specs.Clauses.Faults as cidr_faults
use Rattle.pf_cidr.specs.Tables as cidr
use Rattle.pf_listfile.specs.ListFile as list_file
use Rattle.pf_listfile.specs.declared.item.Item.{Item}
use Rattle.pf_pcre.specs.Tables as pcre
use Rattle.pf_table.specs.Inline as inline
use Rattle.pf_table.specs.Line.{pair_of, reason_text}
use Rattle.pf_table.specs.Text as text
use Rattle.pf_table.specs.declared.pairs.Repeats.{Repeats}
use Rattle.pf_maps.proofs.OpenLaws.{not_memory, refusal_said}
use Rattle.pf_maps.specs.Cdb as cdb
use Rattle.pf_maps.specs.Clauses.Opened.{fault_of, is_of_size, names_size}
use Rattle.pf_maps.specs.Opening.{inline_opened}
use Rattle.pf_maps.specs.Specification as naming
use Rattle.pf_maps.specs.Specification.{named, spec_of}
use Rattle.pf_maps.specs.declared.opening.Place.{Place}
use Rattle.pf_maps.specs.declared.specification.SpecNode.{SpecNode}

abbrev size : List ℕ
size = codes "pattern size"

-- the refusal of an answer names no size
abbrev pub Small : {A : Type 0} → Result A Refused → Type 0
Small answer = (refusal : Refused) → answer ≡ Err refusal → is_of_size refusal ≡ false

pub small_fault : {A : Type 0} (answer : Result A Refused) (fault : ConfFault) → Small answer → (fault ≢ conf_fault.NoMemory → Err fault ≡ as_fault answer)
    → names_size (fault_of fault) ≡ false
small_fault answer (conf_fault.Refused refusal) small is = small refusal (refusal_said answer refusal (is (not_memory refusal)))
small_fault answer conf_fault.NoMemory small is = refl

-- pf_cidr has the same word of its own
pub as_refused : {A : Type 0} (answer : Result A Refused) → cidr_faults.as_fault answer ≡ as_fault answer
as_refused (Ok x) = refl
as_refused (Err refusal) = refl

pub small_one : (refusal : Refused) (fault : ConfFault) → is_of_size refusal ≡ false → (fault ≢ conf_fault.NoMemory → fault ≡ conf_fault.Refused refusal)
    → names_size (fault_of fault) ≡ false
small_one refusal (conf_fault.Refused other) small is =
    let made : conf_fault.Refused other ≡ conf_fault.Refused refusal = is (not_memory other) in
    let e : refusal ≡ other = cc in
    sym (ap is_of_size e) ∙ small
small_one refusal conf_fault.NoMemory small is = refl

-- steps that name none
small_step : {A B : Type 0} (answer : Result A Refused) (f : A → Result B Refused) → Small answer → ((x : A) → Small (f x)) → Small (answer >>= f)
small_step (Ok x) f first next refusal is = next x refusal is
small_step (Err other) f first next refusal is = let e : other ≡ refusal = cc in first refusal (ap Err e)

pub small_ok : {A : Type 0} (x : A) → Small (Ok x)
small_ok x refusal is = cc

-- text tables
line_small : (reason : _) → bytes_eq (reason_text reason) size ≡ false
line_small reason = grind arith

small_line : (file : List ℕ) (line : ℕ) (answer : Result Pair _) → Small (text.or_refused file line answer)
small_line file line (Ok pair) = small_ok _
small_line file line (Err reason) = λ refusal is.
    let e : refused file line C11 (reason_text reason) ≡ refusal = cc in sym (ap is_of_size e) ∙ line_small reason

small_lines : (file : List ℕ) (folds : Bool) (lines : List Logical) → Small (text.lines_read file folds lines)
small_lines file folds [] = small_ok []
small_lines file folds (logical ∷ lines) =
    small_step (text.entry_of file folds logical) _ (small_line file logical.line (pair_of folds logical.text))
    (λ entry. small_step (text.lines_read file folds lines) _ (small_lines file folds lines) (λ more. small_ok (entry ∷ more)))

small_leading : (file : List ℕ) (leading : List Physical) (lines : List Logical) → Small (text.unless_continued file leading lines)
small_leading file [] lines = small_ok lines
small_leading file (line ∷ leading) lines = λ refusal is.
    let e : refused file line.number C1 [] ≡ refusal = cc in sym (ap is_of_size e)

pub small_text : (file : List ℕ) (folds : Bool) (repeats : Repeats) (bytes : List ℕ) → Small (text.text_read file folds repeats bytes)
unfolding text.text_read
small_text file folds repeats bytes =
    small_step (text.lines_in file (grouped (physical_lines bytes))) _
    (small_leading file (grouped (physical_lines bytes)).leading (grouped (physical_lines bytes)).logical)
    (λ lines. small_step (text.entries_in file folds repeats lines) _
    (small_step (text.lines_read file folds lines) _ (small_lines file folds lines) (λ es. small_ok _)) (λ es. small_ok _))

-- list files
small_items : (file : List ℕ) (line : ℕ) (answer : Option (List Item)) → Small (list_file.or_refused file line answer)
small_items file line (Some items) = small_ok items
small_items file line None = λ refusal is.
    let e : refused file line C11 list_file.item_reason ≡ refusal = cc in sym (ap is_of_size e)

small_list_lines : (file : List ℕ) (lines : List Logical) → Small (list_file.lines_items file lines)
small_list_lines file [] = small_ok []
small_list_lines file (logical ∷ lines) =
    small_step (list_file.or_refused file logical.line (list_file.line_items logical.text)) _ (small_items file logical.line (list_file.line_items logical.text))
    (λ items. small_step (list_file.lines_items file lines) _ (small_list_lines file lines) (λ more. small_ok (items ++ more)))

pub small_list : (file bytes : List ℕ) → Small (list_file.items_of file bytes)
unfolding list_file.items_of
small_list file bytes =
    small_step (text.lines_in file (grouped (physical_lines bytes))) _
    (small_leading file (grouped (physical_lines bytes)).leading (grouped (physical_lines bytes)).logical)
    (λ lines. small_list_lines file lines)

-- tables of nets
net_small : (reason : _) → bytes_eq (cidr.reason_text reason) size ≡ false
unfolding cidr.reason_text
net_small reason = grind arith

small_nets : (file : List ℕ) (leading : List Physical) (answer : Result cidr.Table (ℕ × _)) → Small (cidr.unless_continued file leading (cidr.or_refused file answer))
small_nets file [] (Ok table) = small_ok table
small_nets file [] (Err why) = λ refusal is.
    let e : cidr.refused file why.0 C11 (cidr.reason_text why.1) ≡ refusal = cc in sym (ap is_of_size e) ∙ net_small why.1
small_nets file (line ∷ leading) answer = λ refusal is.
    let e : cidr.refused file line.number C1 [] ≡ refusal = cc in sym (ap is_of_size e)

pub small_cidr : (file bytes : List ℕ) → Small (cidr.table_of file bytes)
unfolding cidr.table_of
small_cidr file bytes = small_nets file (grouped (physical_lines bytes)).leading (cidr.table_with (grouped (physical_lines bytes)).logical)

-- cdb files
damage_small : (damage : Damage) → bytes_eq (cdb.damage_text damage) size ≡ false
unfolding cdb.damage_text
damage_small damage.Header = refl
damage_small (damage.TableRange table) = refl
damage_small (damage.SlotRange table slot) = refl
damage_small (damage.RecordRange at) = refl
damage_small (damage.WrongHash table slot) = refl

small_damage : (name : List ℕ) (table : cdb.Cdb) (damage : Option Damage) → Small (cdb.unless_damaged name table damage)
small_damage name table None = small_ok table
small_damage name table (Some one) = λ refusal is.
    let e : refused name 0 C11 (cdb.damage_text one) ≡ refusal = cc in sym (ap is_of_size e) ∙ damage_small one

pub small_cdb : (name : List ℕ) (folds : Bool) (bytes : List ℕ) → Small (cdb.cdb_read name folds bytes)
small_cdb name folds bytes = small_damage name (record { folds = folds; file = bytes }) (first_damage bytes)

-- texts that name no table, and inline tables
pub small_spec : (file : List ℕ) (line : ℕ) (bytes : List ℕ) → Small (spec_of file line bytes)
small_spec file line bytes = by (named bytes)
  where
    by : (o : Option (List SpecNode)) → Small (naming.or_refused file line bytes o)
    by (Some nodes) = small_ok nodes
    by None = λ refusal is. let e : refused file line C9 bytes ≡ refusal = cc in sym (ap is_of_size e)

small_pairs : (file : List ℕ) (line : ℕ) (folds : Bool) (bytes : List ℕ) → Small (inline.inline_of file line folds bytes)
small_pairs file line folds bytes = by (inline.inline_pairs folds bytes)
  where
    by : (o : Option (List Pair)) → Small (inline.or_refused file line folds bytes o)
    by (Some pairs) = small_ok _
    by None = λ refusal is. let e : inline.text_refused file line bytes ≡ refusal = cc in sym (ap is_of_size e)

pub small_inline : (place : Place) (folds : Bool) (bytes : List ℕ) → Small (inline_opened place folds bytes)
small_inline place folds bytes = small_step (inline.inline_of place.file place.line folds bytes) _ (small_pairs place.file place.line folds bytes) (λ table. small_ok _)

-- of tables of patterns the name alone says it
pub pattern_named : (large : Option ℕ) (file bytes : List ℕ) (refusal : Refused) → pcre.table_of large file bytes ≡ Err refusal → is_of_size refusal ≡ bytes_eq refusal.name size
unfolding pcre.table_of
pattern_named large file bytes refusal is = by (grouped (physical_lines bytes)).leading (pcre.table_with large (grouped (physical_lines bytes)).logical) is
  where
    by : (leading : List Physical) (answer : Result (List _) (ℕ × _))
        → pcre.unless_continued file leading (pcre.or_refused file answer) ≡ Err refusal → is_of_size refusal ≡ bytes_eq refusal.name size
    by [] (Ok table) e = cc
    by [] (Err why) e =
        let same : pcre.refused file why.0 C11 (pcre.reason_text why.1) ≡ refusal = cc in
        sym (ap is_of_size same) ∙ ap (λ r. bytes_eq r.name size) same
    by (line ∷ leading) answer e =
        let same : pcre.refused file line.number C1 [] ≡ refusal = cc in
        sym (ap is_of_size same) ∙ ap (λ r. bytes_eq r.name size) same
