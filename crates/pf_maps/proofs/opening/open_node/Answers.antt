use Rattle.pf_maps.proofs.TurnLaws.{opens_file}
use Rattle.pf_maps.specs.Opening.{cdb_opened, cidr_opened, list_opened, text_opened}
use Rattle.pf_maps.proofs.opening.open_node.Goals as goal

pub returns-in-Text : goal.returns-in-Text
returns-in-Text g c =
    rw c.in-Text.is (opens_file (g.F.Files.known c.args.files.now) (g.F.Files.known c.open_text.new.files) c.args.patterns.now
    (λ failed all. text_opened failed all c.args.place.now c.args.folded c.in-Text.name) c.open_text.result
    (rw c.as_slice.ensures at c.open_text.ensures.opens) c.open_text.ensures.small)

pub returns-in-Cdb : goal.returns-in-Cdb
returns-in-Cdb g c =
    rw c.in-Cdb.is (opens_file (g.F.Files.known c.args.files.now) (g.F.Files.known c.open_cdb.new.files) c.args.patterns.now
    (λ failed all. cdb_opened failed all c.args.place.now c.args.folded c.in-Cdb.name) c.open_cdb.result
    (rw c.as_slice-in-Cdb.ensures at c.open_cdb.ensures.opens) c.open_cdb.ensures.small)

pub returns-in-Cidr : goal.returns-in-Cidr
returns-in-Cidr g c =
    rw c.in-Cidr.is (opens_file (g.F.Files.known c.args.files.now) (g.F.Files.known c.open_cidr.new.files) c.args.patterns.now
    (λ failed all. cidr_opened failed all c.args.place.now c.in-Cidr.name) c.open_cidr.result
    (rw c.as_slice-in-Cidr.ensures at c.open_cidr.ensures.opens) c.open_cidr.ensures.small)

pub returns-in-ListFile : goal.returns-in-ListFile
returns-in-ListFile g c =
    rw c.in-ListFile.is (opens_file (g.F.Files.known c.args.files.now) (g.F.Files.known c.open_list.new.files) c.args.patterns.now
    (λ failed all. list_opened failed all c.args.place.now c.in-ListFile.name) c.open_list.result
    (rw c.as_slice-in-ListFile.ensures at c.open_list.ensures.opens) c.open_list.ensures.small)
