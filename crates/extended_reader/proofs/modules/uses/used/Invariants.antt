use Rattle.std.proofs.Common.{◌≡◌, ◌≤◌, ◌-◌, true, length}
use Rattle.extended_reader.specs.Uses.{made_limit, stands_for, used}
use Rattle.extended_reader.specs.Inside.Modules.{gone, whole_of}
use Rattle.extended_reader.proofs.modules.uses.used.Given as goal

abbrev pub invariant-loop-count : goal.invariant-loop-count
invariant-loop-count l = record {
  few : l.walk.made ≤ made_limit;
  is : whole_of (stands_for l.site.modules.now l.site.known.now l.site.own) l.end
      (gone l.walk.items l.walk.out l.walk.left.now l.walk.may_begin l.walk.made) (l.most - l.count)
      ≡ used (stands_for l.site.modules.now l.site.known.now l.site.own) l.end (length l.text) 0 true l.text;
}
