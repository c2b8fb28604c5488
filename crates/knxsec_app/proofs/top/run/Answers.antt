use Rattle.std.proofs.Common.{refl}
use Rattle.knxsec_app.proofs.Opened.{opens_none}
use Rattle.knxsec_app.proofs.Reasons.{have_reasons}
use Rattle.knxsec_app.proofs.top.run.Goals as goal

pub returns-in-None-clause-answer : goal.returns-in-None-clause-answer
returns-in-None-clause-answer g c = λ told are. rw (← c.in-None.ensures.asked) (c.print_usage.ensures.answer told)

pub returns-in-None-clause-files : goal.returns-in-None-clause-files
returns-in-None-clause-files g c = rw (← c.in-None.ensures.asked) (record {
  opens = opens_none c.print_usage.result (g.F.Files.seen c.args.files.now);
  order = λ files are other. refl;
  whole = λ is_whole files are. tt;
  unopened = λ is_served files are. tt;
})

pub returns-in-None-clause-reasons : goal.returns-in-None-clause-reasons
returns-in-None-clause-reasons g c = have_reasons

pub returns-in-Some-clause-files : goal.returns-in-Some-clause-files
returns-in-Some-clause-files g c = rw (← c.in-Some.ensures.asked) (record {
  opens = c.obey.ensures.opens;
  order = c.obey.ensures.order;
  whole = c.obey.ensures.whole;
  unopened = c.obey.ensures.unopened;
})

pub returns-in-Some-clause-reasons : goal.returns-in-Some-clause-reasons
returns-in-Some-clause-reasons g c = have_reasons
