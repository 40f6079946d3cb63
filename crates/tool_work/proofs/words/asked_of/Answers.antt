use Rattle.clap.specs.Words.{found_of, rows_of}
use Rattle.tool_work.proofs.AskLemmas.{asks_nothing, met}
use Rattle.tool_work.proofs.AskLemmas.Optioned.{play, show, draw, race, serve, host}
use Rattle.tool_work.proofs.words.asked_of.Goals as goal

-- where the options give nothing
pub returns-in_err-play_given-in-play : goal.returns-in_err-play_given-in-play
returns-in_err-play_given-in-play c = asks_nothing (rows_of (found_of c.args.options.now)) play c.from_residual.ensures c.in-play.is c.in_err-play_given-in-play.ensures

pub returns-in_err-show_given-in-show : goal.returns-in_err-show_given-in-show
returns-in_err-show_given-in-show c = asks_nothing (rows_of (found_of c.args.options.now)) show c.from_residual-in_err-show_given-in-show.ensures c.in-show.is c.in_err-show_given-in-show.ensures

pub returns-in_err-draw_given-in-draw : goal.returns-in_err-draw_given-in-draw
returns-in_err-draw_given-in-draw c = asks_nothing (rows_of (found_of c.args.options.now)) draw c.from_residual-in_err-draw_given-in-draw.ensures c.in-draw.is c.in_err-draw_given-in-draw.ensures

pub returns-in_err-race_given-in-race : goal.returns-in_err-race_given-in-race
returns-in_err-race_given-in-race c = asks_nothing (rows_of (found_of c.args.options.now)) race c.from_residual-in_err-race_given-in-race.ensures c.in-race.is c.in_err-race_given-in-race.ensures

pub returns-in_err-serve_given-in-serve : goal.returns-in_err-serve_given-in-serve
returns-in_err-serve_given-in-serve c = asks_nothing (rows_of (found_of c.args.options.now)) serve c.from_residual-in_err-serve_given-in-serve.ensures c.in-serve.is c.in_err-serve_given-in-serve.ensures

pub returns-in_err-host_given-in-host : goal.returns-in_err-host_given-in-host
returns-in_err-host_given-in-host c = asks_nothing (rows_of (found_of c.args.options.now)) host c.from_residual-in_err-host_given-in-host.ensures c.in-host.is c.in_err-host_given-in-host.ensures

-- and where they give something
pub returns-in_ok-play_given-in-play : goal.returns-in_ok-play_given-in-play
returns-in_ok-play_given-in-play c = (rows_of (found_of c.args.options.now), met (rows_of (found_of c.args.options.now)) c.in-play.is, c.in_ok-play_given-in-play.ensures)

pub returns-in_ok-show_given-in-show : goal.returns-in_ok-show_given-in-show
returns-in_ok-show_given-in-show c = (rows_of (found_of c.args.options.now), met (rows_of (found_of c.args.options.now)) c.in-show.is, c.in_ok-show_given-in-show.ensures)

pub returns-in_ok-draw_given-in-draw : goal.returns-in_ok-draw_given-in-draw
returns-in_ok-draw_given-in-draw c = (rows_of (found_of c.args.options.now), met (rows_of (found_of c.args.options.now)) c.in-draw.is, c.in_ok-draw_given-in-draw.ensures)

pub returns-in_ok-race_given-in-race : goal.returns-in_ok-race_given-in-race
returns-in_ok-race_given-in-race c = (rows_of (found_of c.args.options.now), met (rows_of (found_of c.args.options.now)) c.in-race.is, c.in_ok-race_given-in-race.ensures)

pub returns-in_ok-serve_given-in-serve : goal.returns-in_ok-serve_given-in-serve
returns-in_ok-serve_given-in-serve c = (rows_of (found_of c.args.options.now), met (rows_of (found_of c.args.options.now)) c.in-serve.is, c.in_ok-serve_given-in-serve.ensures)

pub returns-in_ok-host_given-in-host : goal.returns-in_ok-host_given-in-host
returns-in_ok-host_given-in-host c = (rows_of (found_of c.args.options.now), met (rows_of (found_of c.args.options.now)) c.in-host.is, c.in_ok-host_given-in-host.ensures)
