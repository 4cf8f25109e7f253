mod Numbers
mod Pushing
mod Available
mod Sources
mod Standing
mod Pointing
mod WordParts
mod Taking
mod Places
mod Making
mod PipelinePlanned
mod PipelinePlannedWords
mod PipelinePlannedPlaces
mod Laid
pub mod MarkParts
