-- Lists that say the same. Words of contracts, by no standard.
use Rattle.std.specs.Prelude.{◌≡◌, ◌++◌, ◌∷◌, [], ℕ, Bool, List}
use Rattle.pf_class.specs.Members.{is_member, tables_of}
use Rattle.pf_class.specs.declared.domains.Domains.{Domains}
use Rattle.pf_class.specs.declared.gathering.Gathered.{Gathered}
use Rattle.pf_class.specs.declared.item.Item.{Item}
use Rattle.pf_class.specs.declared.item.Pattern.TheVariants.{Names}
use Rattle.pf_class.specs.declared.subject.Subject.{Subject}

-- an item of names
abbrev pub names_item : Bool → List (List ℕ) → Item
names_item excludes names = record { pattern = Names names; excludes = excludes }

-- a list says of each subject what another one says, whatever items come after both, and has the same tables
pub record SaysAs (a b : List Item) : Type 0 where
  pub says : (subject : Subject) (behind : List Item) → is_member (a ++ behind) subject ≡ is_member (b ++ behind) subject
  pub tables : tables_of a ≡ tables_of b

-- the items that were gathered
abbrev pub gathered_items : Gathered → List Item
gathered_items gathered = gathered.items ++ names_item gathered.excludes gathered.names ∷ []

-- domains go by the same rules and addresses as others, and their lists say the same
pub record SayAs (a b : Domains) : Type 0 where
  pub rules : a.rules ≡ b.rules
  pub own : a.own ≡ b.own
  pub mydestination : SaysAs a.mydestination b.mydestination
  pub virtual_alias_domains : SaysAs a.virtual_alias_domains b.virtual_alias_domains
  pub virtual_mailbox_domains : SaysAs a.virtual_mailbox_domains b.virtual_mailbox_domains
  pub relay_domains : SaysAs a.relay_domains b.relay_domains
  pub mynetworks : a.mynetworks ≡ b.mynetworks
