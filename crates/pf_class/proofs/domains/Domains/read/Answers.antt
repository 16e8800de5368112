use Rattle.pf_class.specs.Site.{domains_of}
use Rattle.pf_class.proofs.domains.Domains.read.Goals as goal

pub returns : goal.returns
unfolding domains_of
returns c = record {
  rules = c.in_ok-rules_of.ensures;
  own = rw (c.as_slice.ensures, c.as_slice-2.ensures, c.in_ok-words.ensures) at c.in_ok-interfaces.ensures;
  mydestination = c.in_ok-domains_named.ensures;
  virtual_alias_domains = c.in_ok-domains_named-2.ensures;
  virtual_mailbox_domains = c.in_ok-domains_named-3.ensures;
  relay_domains = c.in_ok-domains_named-4.ensures;
  mynetworks = c.in_ok-networks_named.ensures;
}
